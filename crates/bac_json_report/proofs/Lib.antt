pub mod LinesSeen
pub mod Times
pub mod Printed
pub mod Checked
