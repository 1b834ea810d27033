pub mod Readable
pub mod Panel
