-- No way is answered over a span that either end last called failed. In the order of reading.
pub mod Saying
pub mod Standing
pub mod Steering
pub mod MeetsSteering
