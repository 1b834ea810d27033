pub mod PieceLaws
pub mod RecordLaws
pub mod RegionLaws
pub mod SetLaws
pub mod JobLaws
