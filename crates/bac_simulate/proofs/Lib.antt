pub mod Appending
pub mod Limits
pub mod Making
pub mod News
pub mod Parting
pub mod Reading
pub mod Reported
mod Separated
pub mod Settings
pub mod Stepping
pub mod Showing
pub mod ToldTexts
pub mod Tracing
pub mod Starting
