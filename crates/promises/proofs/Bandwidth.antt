-- 02, Item 1: free bandwidth. In the order of reading.
pub mod Answers
pub mod Below
pub mod Lowest
pub mod Hops
pub mod Ends
pub mod Fullest
pub mod SameNumbers
pub mod TwoNodes
pub mod Bandwidth
pub mod MeetsBandwidth
