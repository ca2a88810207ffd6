-- Lost attempts: what each statement does, what is noted of it, and both along a run.
pub mod Statement
pub mod Noted
pub mod Ticks
pub mod Run
pub mod Theorem
