pub mod Sends
pub mod States
pub mod Laws
pub mod Lengths
pub mod Framed
pub mod Examples
