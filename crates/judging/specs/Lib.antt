pub mod Answers
pub mod Judge
pub mod LentJudge
pub mod Yes
