pub mod Months
pub mod Laws
pub mod Examples
