pub mod Blocks
pub mod Playing
