pub mod Blocking
pub mod Counted
pub mod DeviceLines
pub mod Hearings
pub mod Report
pub mod Reporting
