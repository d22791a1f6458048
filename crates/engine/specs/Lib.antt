pub mod Working
pub mod Waiting
pub mod Queues
