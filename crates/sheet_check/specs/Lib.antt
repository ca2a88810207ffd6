pub mod Read
pub mod Accepting
