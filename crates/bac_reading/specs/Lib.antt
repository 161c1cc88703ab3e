pub mod Files
pub mod Selecting
pub mod Copied
pub mod Decodings
pub mod Reports
pub mod Scripts
