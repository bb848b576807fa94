pub mod Encoding
pub mod Operations
pub mod Asked
