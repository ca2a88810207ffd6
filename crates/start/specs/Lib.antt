pub mod Start
pub mod Declaring
