pub mod Refusals
pub mod Loading
pub mod Shrinking
pub mod Minimizing
pub mod Printout
pub mod Printing
