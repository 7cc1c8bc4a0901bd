pub mod ScanCodes
pub mod Packets
pub mod Short
pub mod Writing
