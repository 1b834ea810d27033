pub mod OneByte
pub mod Together
