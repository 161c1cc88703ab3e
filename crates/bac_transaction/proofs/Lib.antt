-- Lemmas on keys, sizes, pieces and ends.
pub mod Short
pub mod Pieces
pub mod Keyed
pub mod Computed
pub mod ReuseComputed
pub mod ServingComputed
pub mod SharingComputed
pub mod KeyOrder
pub mod Holding
pub mod KeyedSlots
pub mod Entries
pub mod ClientTables
pub mod ServerTables
pub mod TurnedAway
pub mod ByRules
pub mod Viewed
pub mod Telling
