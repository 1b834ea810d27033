pub mod PieceLaws
pub mod CutLaws
pub mod NameLaws
pub mod TableLaws
pub mod WholeLaws
