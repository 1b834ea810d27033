pub mod PartWords
