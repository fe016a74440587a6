pub mod NameEnds
pub mod Walks
