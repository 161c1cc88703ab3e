pub mod Records
pub mod Questions
pub mod Answers
pub mod CellTexts
pub mod Rows
pub mod Cells
pub mod Objects
pub mod Members
