pub mod Order
pub mod Positions
pub mod Transactions
