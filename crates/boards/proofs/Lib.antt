pub mod Kept
pub mod Stepped
pub mod Everywhere
pub mod Fitting
pub mod More
