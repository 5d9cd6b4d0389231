-- the program's answer is that of the whole files
pub mod WholeFiles
