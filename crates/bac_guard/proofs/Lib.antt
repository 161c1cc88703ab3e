pub mod Bounds
pub mod Hosts
pub mod Parts
mod Examples
