pub mod Model
pub mod Told
