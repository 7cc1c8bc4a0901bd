pub mod Firsts
pub mod Pieces
pub mod Sent
pub mod Examples
