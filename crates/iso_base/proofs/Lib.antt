pub mod Appending
pub mod FilesByName
pub mod PartLaws
pub mod SameShelf
pub mod Taking
