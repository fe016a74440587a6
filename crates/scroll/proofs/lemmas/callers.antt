pub mod Cursors
pub mod OwnTypes
pub mod RoundTrips
