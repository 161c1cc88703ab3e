pub mod Slots
pub mod Statuses
pub mod ShortReplies
pub mod HouseReplies
pub mod OneReply
pub mod PrintedAnswers
pub mod Reported
pub mod FreshClients
