-- Formats of any size. What several contracts of the second library share.
pub mod Spans
pub mod SmallErrors
pub mod Zeros
pub mod Tagged
pub mod Many
