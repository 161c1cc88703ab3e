pub mod Batches
pub mod Elements
pub mod Hearing
