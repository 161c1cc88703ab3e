pub mod Elements
pub mod Utf8
pub mod Sole
pub mod Named
