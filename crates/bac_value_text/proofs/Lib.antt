mod DecimalDigits
mod Parts
mod Characters
mod BitStrings
mod Floats
mod Fields
mod Objects
mod Values
mod ElementTexts
pub mod Splits
pub mod Inverse
pub mod Appended
pub mod Looking
