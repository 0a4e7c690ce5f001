-- The machine of small steps over the stable states.
pub mod TraceLemmas
pub mod HeldLemmas
pub mod Updates
pub mod Memory
pub mod Disks
pub mod Performing
pub mod Carrying
pub mod Crashes
pub mod Naming
pub mod NameLemmas
pub mod FlagLemmas
pub mod Runs
pub mod History
pub mod MessageLemmas
pub mod ExampleRun
pub mod Invariant
