-- The server's end: what its calls answer, and what contracts see of the types in code.
pub mod Turns
pub mod Views
pub mod Aging
pub mod Short
pub mod Kept
pub mod Freeing
pub mod TransactionViews
pub mod Reactions
pub mod Reading
pub mod Preparing
pub mod Segments
pub mod Hearing
pub mod Sharing
pub mod Timers
