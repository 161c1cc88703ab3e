pub mod Turns
pub mod Asks
pub mod Capacities
pub mod Waits
pub mod Rules
