mod Common
pub mod Reporting
pub mod Telling
pub mod Causing
pub mod BetweenSteps
pub mod Showing
