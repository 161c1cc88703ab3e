mod Examples
mod RankExamples
pub mod Places
pub mod Orders
pub mod ValueData
pub mod Keeps
pub mod PlanLaws
mod SizeLaws
pub mod Rising
pub mod Distinct
pub mod Sorting
pub mod Stored
pub mod HouseLaws
pub mod ReplyKinds
pub mod ReplySizes
pub mod Equal
pub mod KindLaws
pub mod OrderLaws
pub mod WriteLaws
pub mod GrantLaws
pub mod Viewed
pub mod ObjectLists
pub mod ReadTargets
pub mod ArrayLaws
