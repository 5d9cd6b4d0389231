-- what the program's answer is for the whole file
pub mod WholeFile
