-- Settling as a plain function, its end and its bound.
pub mod Reports
pub mod SizeSteps
pub mod ClientFits
pub mod WorldSizes
pub mod Burdens
pub mod Courses
pub mod Parts
pub mod Asking
pub mod Resting
pub mod Settling
pub mod Loops
pub mod BoundedLoops
