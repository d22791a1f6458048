mod Loops
mod Least
mod Passes
mod Counts
mod Sealing
mod Rounds
mod Within
mod Same
pub mod Front
mod Waking
mod Trees
mod Promise
