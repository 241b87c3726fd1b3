pub mod Frames
pub mod Knows
pub mod Handing
