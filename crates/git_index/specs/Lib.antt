pub mod Indexes
pub mod Entries
