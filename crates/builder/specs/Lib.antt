pub mod Handed
pub mod Packed
pub mod Contract
