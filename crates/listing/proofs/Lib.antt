pub mod Reading
pub mod Lines
pub mod Printing
pub mod Turns
pub mod Rooms
pub mod WholeLine
pub mod Examples
