pub mod Text
pub mod Lines
pub mod Turns
pub mod Input
pub mod Promise
pub mod Examples
