pub mod Bytes
pub mod Blocks
pub mod Sizes
pub mod Products
pub mod Packing
pub mod ProductLaws
pub mod MakingLaws
pub mod SizeLaws
