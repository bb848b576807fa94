pub mod Board
pub mod Parts
pub mod View
pub mod Bounded
pub mod Lent
