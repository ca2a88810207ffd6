pub mod Lines
pub mod Writing
pub mod Numerals
pub mod Views
pub mod Whole
pub mod Model
