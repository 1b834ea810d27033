pub mod ReportLaws
pub mod TellLaws
