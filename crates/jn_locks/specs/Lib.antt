pub mod Locks
pub mod Holders
pub mod Tables
pub mod Asked
pub mod Loops
pub mod LockTables
