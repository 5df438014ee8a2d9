-- Demand 1: refusals. In the order of reading.
pub mod Order
pub mod Results
pub mod Numbers
pub mod Starting
pub mod Demand1
pub mod Meets1
