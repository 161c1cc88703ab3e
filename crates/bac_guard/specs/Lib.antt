-- Which sources are heard, and how much one address is sent.
pub mod Addresses
pub mod Sources
pub mod Views
pub mod Texts
pub mod Buckets
pub mod Budgets
pub mod Meters
pub mod Guards
