pub mod Walk
pub mod Refusal
pub mod Cut
pub mod Rows
pub mod Setup
pub mod Schedule
pub mod File
