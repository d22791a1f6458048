mod Passes
mod Sweeps
