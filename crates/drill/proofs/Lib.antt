pub mod Decimals
pub mod Puts
pub mod Firsts
pub mod Stepping
pub mod Running
pub mod OneLines
pub mod Examples
