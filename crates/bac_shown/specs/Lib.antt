pub mod Harmful
pub mod Escapes
pub mod Pieces
pub mod Going
pub mod Laws
