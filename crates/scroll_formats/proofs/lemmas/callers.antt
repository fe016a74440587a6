pub mod Sequences
pub mod Written
pub mod Weaker
