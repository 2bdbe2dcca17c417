pub mod Standing
pub mod RoundEdges
