pub mod Keys
pub mod Pairs
pub mod Clients
