-- What both ends stand on: keys, sends, both ends as plain values, and what contracts see of the types in code.
pub mod Keys
pub mod Sends
pub mod Ends
pub mod Views
pub mod Given
pub mod Segments
pub mod Tables
pub mod Meanings
pub mod Examples
pub mod Services
pub mod Sharing
pub mod Reuse
pub mod Serving
pub mod ServingLaws
pub mod ReuseExamples
pub mod ServingExamples
pub mod SharingExamples
