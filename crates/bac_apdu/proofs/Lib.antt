pub mod Steps
pub mod Members
pub mod Enumerated
pub mod Apdus
pub mod Examples
