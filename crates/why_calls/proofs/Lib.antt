pub mod Once
pub mod Taken
pub mod RunPlaces
pub mod Reports
pub mod Costs
pub mod Reasons
pub mod Ends
pub mod Rows
