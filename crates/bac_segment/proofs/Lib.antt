pub mod Cut
pub mod Joined
pub mod Reach
pub mod Unique
pub mod Same
pub mod Back
