pub mod Ext
pub mod Setting
