pub mod Laws
pub mod Spelled
pub mod WordLaws
pub mod ReadsBack
pub mod Figures
