pub mod Answers
pub mod ShownWords
pub mod Explained
pub mod WhyWords
