pub mod Seeking
pub mod Linking
