pub mod View
pub mod Composes
