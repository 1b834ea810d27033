pub mod Listed
pub mod ByteOrder
pub mod LentLine
