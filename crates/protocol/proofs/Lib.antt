pub mod Reading
pub mod Ranges
pub mod Table
pub mod Core
pub mod Segments
pub mod PutBack
pub mod Replies
pub mod Monitoring
