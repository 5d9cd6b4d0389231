-- what the programs that read books and annotations cite
pub mod BookFront
pub mod SheetRead
