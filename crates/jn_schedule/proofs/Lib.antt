mod Common
mod Again
mod Arguments
mod Blocks
mod Events
mod HexWords
mod Lines
mod Numbers
mod Splits
mod TextParts
mod Told
mod Values
pub mod Ranges
