pub mod Timer
pub mod Count
pub mod Next
pub mod Change
