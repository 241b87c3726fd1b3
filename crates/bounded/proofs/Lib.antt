pub mod Truth
pub mod Laws
pub mod Lists
pub mod Ranges
