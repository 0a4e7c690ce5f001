pub mod Outside
pub mod FaultPlan
