-- Lemmas on lists of slots, and on the index of a table.
pub mod Slots
pub mod KeyOrder
pub mod Indexes
pub mod Joined
pub mod Ranks
pub mod Swept
pub mod Values
pub mod SlotAges
pub mod Numbers
pub mod Aging
pub mod Removed
pub mod Fronts
pub mod Moves
pub mod InBlocks
