pub mod Membership
pub mod Faults
