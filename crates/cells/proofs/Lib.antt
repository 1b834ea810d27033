pub mod AheadLaws
pub mod NextLaws
