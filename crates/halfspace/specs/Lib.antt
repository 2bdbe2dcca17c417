pub mod Choices
pub mod Divisors
