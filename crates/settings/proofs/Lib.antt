pub mod Tests
pub mod Meets
pub mod Laws
