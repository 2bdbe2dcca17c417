pub mod Shifts
pub mod Strides
pub mod Steps
pub mod Laws
pub mod EdgeEnds
