-- The bytes of a command: decoded they give the command again, and the bytes that a command is decoded from are its own.
pub mod Numbers
pub mod Commands
pub mod Ranges
pub mod Reading
pub mod Verdict
pub mod Sheets
