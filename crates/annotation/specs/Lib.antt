pub mod Tables
pub mod Relaxation
pub mod Answers
pub mod ValidTest
