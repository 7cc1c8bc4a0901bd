pub mod Difference
pub mod Integers
pub mod Bounds
pub mod Rounding
pub mod LongMoves
pub mod Examples
pub mod Spreads
pub mod Signed
