mod Common
pub mod SmallSteps
pub mod WholeSystem
