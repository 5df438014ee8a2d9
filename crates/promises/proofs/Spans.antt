-- What happens to a span over whole histories, whatever stands between. In the order of reading.
pub mod Readings
pub mod OneRecord
pub mod Links
pub mod HoldOff
pub mod Keepalives
pub mod Purging
pub mod Unseen
pub mod Beneath
pub mod Running
pub mod Rising
pub mod Swinging
pub mod Marks
pub mod ProgramNodes
pub mod MeetsSpans
pub mod OldRule
