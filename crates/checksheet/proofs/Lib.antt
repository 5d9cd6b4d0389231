-- the program's answer is that of the whole file
pub mod WholeFile
