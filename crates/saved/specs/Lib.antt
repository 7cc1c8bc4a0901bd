pub mod Digits
pub mod Line
pub mod Load
pub mod Answers
pub mod Promises
