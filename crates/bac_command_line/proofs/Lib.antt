pub mod FirstLines
pub mod Endings
