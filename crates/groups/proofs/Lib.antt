pub mod GroupLaws
pub mod CoverLaws
pub mod PartLaws
