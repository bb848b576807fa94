pub mod Tests
pub mod Fed
