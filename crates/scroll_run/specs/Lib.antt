-- The program. A session of `scroll_run` reads lines, runs the commands that they spell, and prints
-- their results. A line and a word are lists of bytes.
pub mod Words
pub mod Names
pub mod Kinds
pub mod Puts
pub mod Commands
pub mod Lines
pub mod Input
pub mod Output
pub mod Answers
