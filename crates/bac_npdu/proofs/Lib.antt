pub mod Members
pub mod Frames
pub mod Datagrams
pub mod LinkOrder
pub mod PeerOrder
pub mod Writing
pub mod Examples
