mod Common
mod Commands
mod Found
mod Limits
mod NewDisks
mod Numbers
