pub mod View
pub mod Judgement
pub mod ReadToEnd
pub mod Indexed
