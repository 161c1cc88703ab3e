pub mod Plain
pub mod Harmless
pub mod Showing
pub mod Steps
