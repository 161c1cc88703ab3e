pub mod Frames
pub mod LogWords
pub mod EventTexts
pub mod Lines
pub mod Logs
pub mod Kept
