pub mod First
pub mod Asked
