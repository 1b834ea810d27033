pub mod FirstLaws
pub mod SameLaws
pub mod AskedLaws
