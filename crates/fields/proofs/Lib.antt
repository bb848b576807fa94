pub mod Words
mod Decoded
mod Stored
