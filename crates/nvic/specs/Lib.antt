pub mod Nvic
