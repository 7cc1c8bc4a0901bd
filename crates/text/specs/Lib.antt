pub mod Line
pub mod Fronts
pub mod Reading
pub mod Output
