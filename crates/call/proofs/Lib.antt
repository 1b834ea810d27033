pub mod AnswerLaws
pub mod PlainLaws
pub mod CoordLaws
