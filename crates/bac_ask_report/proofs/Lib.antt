pub mod Sole
pub mod Told
