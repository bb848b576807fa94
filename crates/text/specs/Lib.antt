pub mod Numbers
pub mod Words
pub mod Digits
pub mod Lines
