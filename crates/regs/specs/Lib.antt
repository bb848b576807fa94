pub mod Regs
