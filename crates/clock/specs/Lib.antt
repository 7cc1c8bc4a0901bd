pub mod Clock
pub mod Setting
