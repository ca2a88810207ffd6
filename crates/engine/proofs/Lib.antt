pub mod Flat
pub mod Final
pub mod Answers
