pub mod Search
pub mod Within
pub mod Known
pub mod Next
