pub mod Exchanges
pub mod Joined
pub mod LeastFlips
pub mod LabelLists
