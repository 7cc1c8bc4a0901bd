pub mod Motion
pub mod LongMoves
pub mod Spread
