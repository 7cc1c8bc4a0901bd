pub mod Ranges
pub mod Numbers
pub mod States
pub mod Promises
