pub mod Built
pub mod Keys
pub mod Given
