mod Walks
mod Tells
