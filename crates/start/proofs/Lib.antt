pub mod Lists
pub mod Declaring
pub mod Stores
pub mod Loops
pub mod Numbers
