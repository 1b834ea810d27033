pub mod StoreWords
pub mod Told
