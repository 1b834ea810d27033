pub mod NamedLaws
pub mod UserLaws
pub mod AnswerLaws
pub mod Bytes
pub mod Worked
pub mod Same
