pub mod Heads
pub mod HeldEntries
pub mod Bodies
pub mod Reading
pub mod Holding
pub mod Inverse
