pub mod Failed
mod Filled
