pub mod OneDigit
pub mod Lowest
