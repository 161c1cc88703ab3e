pub mod Apdu
pub mod Spelling
pub mod Views
pub mod Reading
pub mod Faults
