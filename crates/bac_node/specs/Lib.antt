pub mod Faults
pub mod Views
pub mod Fresh
pub mod Calls
pub mod Capacities
pub mod Waiting
pub mod Serving
pub mod Memory
