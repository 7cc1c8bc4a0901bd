pub mod Input
pub mod Rows
pub mod Listing
