mod Common
pub mod StoredLemmas
pub mod DoesLemmas
pub mod Same
pub mod Replying
