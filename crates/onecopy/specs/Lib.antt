pub mod Copy
pub mod View
pub mod Serial
pub mod Example
