pub mod Cut
pub mod Pieces
pub mod Sent
pub mod Promises
