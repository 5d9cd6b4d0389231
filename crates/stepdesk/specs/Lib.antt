pub mod Printed
pub mod Ready
