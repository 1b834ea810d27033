pub mod FoldLaws
pub mod NamedLaws
pub mod RunsLaws
pub mod GroupLaws
pub mod Done
