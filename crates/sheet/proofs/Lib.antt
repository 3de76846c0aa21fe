pub mod DecimalLaws
pub mod KeepLaws
pub mod PenLaws
pub mod PutLaws
pub mod RunLaws
pub mod SheetLaws
pub mod TurnLaws
