pub mod WordLaws
pub mod TellLaws
pub mod Bytes
pub mod Worked
