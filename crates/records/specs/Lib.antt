pub mod Number
pub mod Record
pub mod Rule
pub mod Judge
