mod Moments
pub mod LineFronts
mod OneVerdict
mod Printed
pub mod SoFar
mod ShownLines
mod Gaps
mod Looking
