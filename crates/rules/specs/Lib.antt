pub mod Votes
pub mod Asked
pub mod Fit
