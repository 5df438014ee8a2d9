-- Each contract leaves one answer, and one content of lent memory.
pub mod Laws
pub mod Wire
pub mod Settings
pub mod Spans
pub mod Pacer
pub mod Blocks
pub mod Stations
pub mod Ways
pub mod Controller
pub mod Bandwidth
