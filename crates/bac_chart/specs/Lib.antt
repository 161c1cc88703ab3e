pub mod Marks
pub mod Views
pub mod Lines
pub mod Rows
pub mod Drawings
pub mod Labels
