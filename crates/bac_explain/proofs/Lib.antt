pub mod Seen
pub mod Rooms
pub mod Hearing
