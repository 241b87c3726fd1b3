pub mod Steps
pub mod Protocol
pub mod View
pub mod OneCopy
pub mod Settle
pub mod File
pub mod Example
