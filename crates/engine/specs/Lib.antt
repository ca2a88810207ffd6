pub mod Contract
pub mod Flat
