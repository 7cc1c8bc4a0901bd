pub mod Codes
pub mod Reading
pub mod Settings
pub mod Commands
pub mod Replies
