-- Values of any size, by their formats.
pub mod Errors
pub mod Layouts
pub mod Formats
pub mod OneWay
pub mod Starts
pub mod Leaves
pub mod Varints
pub mod VarintLeaves
pub mod Numerals
pub mod Fills
pub mod FillLeaves
pub mod Lists
pub mod MarkSizes
pub mod Marks
pub mod ListEnds
pub mod Closed
pub mod ListLeaves
pub mod TableLeaves
pub mod Fields
pub mod Bits
pub mod Wholes
pub mod Each
pub mod Pointers
-- Lemmas, and no definitions, which the laws of implementations cite.
pub mod lemmas
