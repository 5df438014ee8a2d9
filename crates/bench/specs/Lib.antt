pub mod Records
pub mod Ring
pub mod Runs
