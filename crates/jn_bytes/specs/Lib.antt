pub mod ByteFiles
pub mod Calls
pub mod Turns
pub mod Ranges
pub mod Exchanges
pub mod Counting
