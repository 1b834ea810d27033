pub mod WhyTaken
pub mod PartShown
