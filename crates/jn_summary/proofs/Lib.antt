mod Adding
pub mod Taking
