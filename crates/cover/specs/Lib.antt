pub mod Holding
pub mod Calls
pub mod Trying
pub mod Recording
pub mod Serving
pub mod Rounds
