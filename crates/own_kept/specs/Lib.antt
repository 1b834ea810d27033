pub mod OwnKept
