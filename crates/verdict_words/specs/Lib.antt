pub mod VerdictWords
pub mod Told
