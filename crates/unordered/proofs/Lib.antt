pub mod Alike
pub mod Groups
pub mod Rows
pub mod Stores
pub mod Done
pub mod Unordered
pub mod Worked
