pub mod Shifting
pub mod Settling
pub mod Judging
pub mod Attempting
pub mod Tallying
pub mod Walking
pub mod Turning
