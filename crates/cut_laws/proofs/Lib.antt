mod CutTests
pub mod Pairs
pub mod FoundLinks
pub mod LinkOrder
pub mod LateLabels
pub mod SameFlags
pub mod NamedTriangles
pub mod CutShape
