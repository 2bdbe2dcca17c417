pub mod Spectrum
pub mod Growing
pub mod Counted
