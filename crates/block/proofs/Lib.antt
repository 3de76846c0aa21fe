pub mod PackingLaws
pub mod RangeLaws
pub mod WeightLaws
