pub mod Sticks
pub mod Events
pub mod Ticks
pub mod Commands
pub mod Keycode
