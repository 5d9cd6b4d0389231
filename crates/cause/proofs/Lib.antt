-- what the position of the first fault means
pub mod FirstFault
