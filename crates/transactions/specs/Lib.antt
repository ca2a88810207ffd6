pub mod Bits
pub mod Blocks
pub mod Accesses
pub mod Commits
