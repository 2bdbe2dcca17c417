pub mod Agreement
pub mod SeamTables
pub mod Coordinates
pub mod CellLemmas
pub mod FacetSets
