pub mod Empty
pub mod Lists
pub mod Sites
pub mod Concern
pub mod Judge
pub mod Fits
pub mod First
