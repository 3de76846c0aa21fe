pub mod Bit
pub mod Cubes
pub mod Covering
pub mod Positions
pub mod PositionLaws
pub mod BitLaws
pub mod MakingLaws
pub mod CountLaws
