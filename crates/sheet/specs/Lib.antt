pub mod InTurn
pub mod Pens
pub mod Refusing
pub mod Reporting
pub mod Text
pub mod Writing
