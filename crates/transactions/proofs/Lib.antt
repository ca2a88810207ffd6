pub mod Mask
pub mod Walks
pub mod Gathers
pub mod Cases
