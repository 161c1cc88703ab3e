pub mod Identifiers
pub mod Numbers
pub mod Tables
pub mod RightLaws
