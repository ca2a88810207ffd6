pub mod Packed
pub mod Rows
pub mod State
pub mod Sized
pub mod Held
