pub mod Reads
pub mod Writes
pub mod Lists
pub mod Points
