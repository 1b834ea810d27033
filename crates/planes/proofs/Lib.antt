pub mod PlaneLaws
pub mod JoinLaws
pub mod PutLaws
pub mod Meaning
pub mod FillLaws
pub mod Unique
