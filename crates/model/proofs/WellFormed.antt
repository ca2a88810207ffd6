-- The commands that are read without fault are those of the well-formed sheets.
pub mod Facts
-- what is read without fault is a well-formed sheet (`good-written`)
pub mod Closes
pub mod Written
-- a well-formed sheet is read without fault (`rules-good`)
pub mod Bodies
pub mod Sections
-- a sheet is accepted exactly when it is well formed
pub mod Theorem
