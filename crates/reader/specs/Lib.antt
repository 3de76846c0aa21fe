pub mod Numbers
pub mod Rows
pub mod Lines
pub mod Reading
pub mod Turns
pub mod Accepted
pub mod Back
