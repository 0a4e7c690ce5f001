mod Common
pub mod Growth
pub mod WithCalls
pub mod Refused
pub mod Ops
pub mod Beginners
pub mod LineByLine
pub mod InTurn
pub mod CausedGrowth
pub mod Telling
pub mod Orders
