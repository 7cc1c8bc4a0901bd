pub mod Known
pub mod Fronts
pub mod Turns
pub mod Feeding
