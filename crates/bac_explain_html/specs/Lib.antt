pub mod Escapes
pub mod Pictures
pub mod Rows
pub mod Notes
pub mod Pages
