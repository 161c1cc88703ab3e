pub mod Appending
pub mod Placing
