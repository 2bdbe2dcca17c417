pub mod Generators
pub mod Starts
pub mod Steps
