pub mod FewLaws
pub mod AskedLaws
pub mod PanelLaws
pub mod FollowedLaws
pub mod PartLaws
pub mod ReportedLaws
pub mod Unique
