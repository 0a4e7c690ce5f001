mod Common
pub mod Rows
pub mod Lists
pub mod Rooms
pub mod Once
pub mod Stepping
pub mod Pages
pub mod Images
pub mod Listed
pub mod Starts
pub mod Lasting
pub mod Leading
pub mod Inputs
pub mod Fronts
pub mod Ends
pub mod Refusals
pub mod Existing
