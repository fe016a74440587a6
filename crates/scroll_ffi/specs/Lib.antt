pub mod Interface
pub mod Refusals
