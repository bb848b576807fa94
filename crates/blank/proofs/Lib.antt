mod Blank
mod Unrouted
mod First
