pub mod Groups
pub mod Cover
