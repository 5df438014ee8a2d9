-- Demand 2: after any history the program is that of the rules. In the order of reading.
pub mod Possible
pub mod AfterKept
pub mod Spelling
pub mod Coming
pub mod Drilling
pub mod Telling
pub mod ManyTicks
pub mod MeetsMany
pub mod Demand2
pub mod Room
pub mod Joining
pub mod MeetsRoom
