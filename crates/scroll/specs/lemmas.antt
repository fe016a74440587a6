pub mod Frames
pub mod NumberLemmas
pub mod FixedLemmas
