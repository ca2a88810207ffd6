pub mod Answer
pub mod StateBytes
pub mod Entries
