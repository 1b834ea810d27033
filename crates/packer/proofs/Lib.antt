pub mod BuildLaws
pub mod PairLaws
pub mod Unique
