pub mod VerdictTells
pub mod FewLaws
