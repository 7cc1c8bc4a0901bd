pub mod Cases
pub mod Packets
pub mod Writing
pub mod Runs
pub mod Computed
pub mod Framed
