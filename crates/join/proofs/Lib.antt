-- the program's answer is that of the whole files
pub mod WholeFiles
pub mod JoinedBuffer
