pub mod Orders
pub mod Bits
pub mod Members
