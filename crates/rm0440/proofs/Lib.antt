pub mod Figures
pub mod SameClock
pub mod SameWrites
pub mod SameEgr
