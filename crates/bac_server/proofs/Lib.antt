pub mod EventLines
pub mod LoggedTurns
pub mod Unwatched
