pub mod Logs
pub mod LogMembers
pub mod Events
pub mod EventMembers
pub mod Cells
