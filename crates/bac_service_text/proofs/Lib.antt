pub mod Appending
pub mod TakenStrings
pub mod Listed
