pub mod Carried
pub mod Lists
pub mod Objects
pub mod Members
pub mod Summaries
pub mod Lines
