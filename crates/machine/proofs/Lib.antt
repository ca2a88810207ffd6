pub mod Mask
pub mod Runs
pub mod Idle
pub mod Resumed
