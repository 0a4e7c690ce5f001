-- What the lines report of a transaction.
pub mod Told
pub mod Agreement
pub mod Example
pub mod WrongRuns
