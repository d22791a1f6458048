pub mod Numbers
pub mod Sections
pub mod Header
pub mod Entries
pub mod Judged
pub mod Laid
pub mod Snapshot
pub mod Alone
