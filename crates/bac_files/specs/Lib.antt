pub mod Comparing
pub mod Limits
pub mod Manifests
pub mod Parts
pub mod Sizes
pub mod WholeFiles
