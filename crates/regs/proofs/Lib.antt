pub mod Fit
pub mod Fixed
pub mod Cases
mod Table
pub mod Laws
