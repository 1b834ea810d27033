pub mod RowLaws
pub mod HomeLaws
pub mod CostLaws
pub mod ReasonLaws
