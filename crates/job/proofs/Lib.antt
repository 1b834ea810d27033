pub mod WholeLaws
pub mod CheckLaws
pub mod HeadLaws
pub mod EarlyLaws
pub mod Same
pub mod FillLaws
