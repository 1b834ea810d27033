pub mod WorkedBytes
pub mod BackLaws
pub mod MapBack
pub mod Parsing
pub mod StoreBack
pub mod ByRegion
pub mod PlainLaws
