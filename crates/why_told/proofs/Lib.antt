pub mod Exactly
pub mod NoGains
