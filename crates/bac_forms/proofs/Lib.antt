mod TextLines
pub mod Shown
