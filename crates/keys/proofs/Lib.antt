pub mod Words
pub mod Maps
pub mod Framed
pub mod Writing
pub mod Examples
