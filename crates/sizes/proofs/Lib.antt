pub mod Shares
pub mod CountLaws
pub mod Counted
pub mod Worked
