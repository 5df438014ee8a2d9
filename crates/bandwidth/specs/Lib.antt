pub mod Free
pub mod Steps
pub mod Examples
