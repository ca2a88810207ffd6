pub mod Fates
pub mod Accounted
pub mod Starts
pub mod Theorem
