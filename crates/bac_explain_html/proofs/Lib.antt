pub mod DeviceRows
pub mod Escaping
pub mod Told
