pub mod NoneLaws
pub mod PackLaws
pub mod StageLaws
