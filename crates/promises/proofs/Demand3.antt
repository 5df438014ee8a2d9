-- Demand 3: two nodes of which one knows fewer types. In the order of reading.
pub mod First
pub mod Dress
pub mod Step
pub mod Showing
pub mod Following
pub mod Latest
pub mod TwoNodes
pub mod Demand3
pub mod Counterexample
pub mod Meets3
pub mod MeetsRoom3
