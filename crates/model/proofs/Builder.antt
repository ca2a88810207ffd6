-- The story of calls of the sheet builder (`story` in Builder/Story.antt).
pub mod Calls
pub mod Handed
pub mod Story
