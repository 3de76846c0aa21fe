pub mod SheetLaws
pub mod SpellLaws
