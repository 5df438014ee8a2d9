-- Demand 2, its second sentence: what was written is read back. In the order of reading.
pub mod ByteLists
pub mod AttributeRecords
pub mod Quiet
pub mod Taking
pub mod RoundTrip
