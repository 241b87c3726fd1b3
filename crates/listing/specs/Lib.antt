pub mod Run
pub mod Listing
