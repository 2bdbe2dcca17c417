pub mod WordBits
pub mod RowBits
pub mod SetBelow
pub mod WordSets
pub mod SetPlaces
