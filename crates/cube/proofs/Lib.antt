pub mod CoveringLaws
pub mod CodeLaws
