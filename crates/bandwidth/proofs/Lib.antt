pub mod Differences
pub mod Summing
pub mod Numbers
pub mod Examples
