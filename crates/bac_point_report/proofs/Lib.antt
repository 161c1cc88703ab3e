pub mod Objects
pub mod Numbers
