pub mod Targets
pub mod Outcomes
pub mod Shown
pub mod Points
pub mod Advice
pub mod Lines
pub mod Listing
pub mod Written
