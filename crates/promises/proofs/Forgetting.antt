-- How long a station stays that is not heard. In the order of reading.
pub mod Ages
pub mod Staying
pub mod Forgetting
pub mod Unheard
pub mod MeetsForgetting
