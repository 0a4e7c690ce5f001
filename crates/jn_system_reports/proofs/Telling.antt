-- What the lines report of a transaction.
pub mod Tellings
pub mod Atoms
pub mod Acting
pub mod Rows
pub mod Facts
pub mod Quiet
pub mod ServerSteps
pub mod OpSteps
pub mod Clients
pub mod ClientTells
pub mod ClientTakes
pub mod Ends
pub mod Runs
pub mod Agreeing
pub mod Reports
pub mod TransactionLines
