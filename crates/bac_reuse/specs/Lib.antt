pub mod Runs
pub mod Once
pub mod Claims
pub mod Examples
pub mod Moves
pub mod Stretches
pub mod StretchExamples
