pub mod Answers
pub mod Kept
pub mod Laws
pub mod Limits
pub mod Numbers
pub mod Pieces
pub mod Window
