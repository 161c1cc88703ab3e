-- Tables as lists of slots, and the index of a table.
pub mod Slots
pub mod Indexes
pub mod Ages
