pub mod Peers
pub mod Npdu
pub mod Datagram
pub mod Addresses
pub mod Views
pub mod Reading
pub mod Causes
pub mod Faults
