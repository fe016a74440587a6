pub mod Headers
pub mod Packets
pub mod Logs
