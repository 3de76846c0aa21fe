pub mod Answers
pub mod Expansions
pub mod Refusals
pub mod Splits
pub mod Tables
