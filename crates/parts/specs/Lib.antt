pub mod Cells
pub mod Changed
