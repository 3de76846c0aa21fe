pub mod LoadLaws
pub mod ShrinkLaws
pub mod WholeLaws
pub mod PrintoutLaws
pub mod CallLaws
pub mod KeepLaws
pub mod FaithfulLaws
