pub mod Answered
pub mod Asked
pub mod Followed
pub mod Reported
