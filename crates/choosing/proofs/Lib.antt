pub mod OnceLaws
pub mod GroupLaws
pub mod FindLaws
pub mod AlikeLaws
pub mod ChooseLaws
