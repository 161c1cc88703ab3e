pub mod Chunks
pub mod Files
mod Gaps
pub mod Lists
pub mod Maps
pub mod Notes
mod Outcomes
pub mod Places
pub mod Refusals
pub mod Restores
pub mod Risings
pub mod Values
