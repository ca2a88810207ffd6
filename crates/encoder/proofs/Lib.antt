pub mod Stores
pub mod Commands
