pub mod StoresOfFiles
pub mod Served
pub mod Stretches
pub mod Forgot
pub mod Listed
pub mod KeptServed
pub mod Opened
mod Changed
pub mod There
