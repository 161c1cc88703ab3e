pub mod Tasks
pub mod Outputs
pub mod ShownForms
pub mod Complaints
pub mod Endings
