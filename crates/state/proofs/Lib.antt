pub mod Cut
pub mod InRange
pub mod Asked
pub mod Copies
pub mod Places
pub mod Stores
mod Pieces
