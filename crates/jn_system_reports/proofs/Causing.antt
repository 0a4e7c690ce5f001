-- Each abort that is reported has its cause.
pub mod Evidence
pub mod WorkerKeeps
pub mod CoordinatorKeeps
pub mod Facts
pub mod ServerSteps
pub mod ClientSteps
pub mod Steps
pub mod Runs
pub mod Causing
pub mod Ends
