pub mod Gpio
