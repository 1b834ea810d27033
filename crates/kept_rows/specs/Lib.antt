pub mod KeptRows
pub mod Exactly
