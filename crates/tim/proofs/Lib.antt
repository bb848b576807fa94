pub mod Laws
pub mod Fit
pub mod Fixed
pub mod UpdateDisable
