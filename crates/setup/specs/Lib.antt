pub mod Setup
pub mod Given
