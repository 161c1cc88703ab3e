pub mod Separated
pub mod Numerals
pub mod Addresses
pub mod ReadLines
pub mod LineWords
mod LineNames
pub mod Lists
pub mod Statuses
pub mod DecimalNumbers
pub mod TimeUnits
