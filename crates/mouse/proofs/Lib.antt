pub mod Dues
pub mod States
pub mod Lengths
pub mod Splits
pub mod Conserved
pub mod Framed
pub mod Sends
