-- Each client and server by its row.
pub mod World
pub mod Servers
pub mod Near
pub mod Steps
pub mod Numbers
pub mod Course
pub mod Settle
pub mod Printing
pub mod PrintedLines
pub mod LockFacts
pub mod Example
pub mod ExampleNames
pub mod WrongRuns
