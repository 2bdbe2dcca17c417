pub mod HullEntries
pub mod ClassHulls
