pub mod Forms
pub mod Members
pub mod Values
pub mod Named
pub mod Requests
pub mod Replies
pub mod Layers
pub mod Datagrams
