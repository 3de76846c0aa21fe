pub mod TableLaws
pub mod SplitLaws
pub mod EmitLaws
pub mod AnswerLaws
pub mod ExpansionLaws
pub mod SurveyLaws
