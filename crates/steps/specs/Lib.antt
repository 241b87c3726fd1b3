pub mod Kinds
pub mod Answers
pub mod Codes
