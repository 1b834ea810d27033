pub mod Numbers
pub mod Passing
