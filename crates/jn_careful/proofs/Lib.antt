mod Common
pub mod Get
pub mod Put
pub mod OneCall
