pub mod DeviceForms
pub mod Told
