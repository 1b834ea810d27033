pub mod WriteLaws
pub mod WalkLaws
pub mod ReadingLaws
