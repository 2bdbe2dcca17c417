pub mod MovedBits
pub mod OrderChecks
pub mod ExchangeBits
pub mod ExchangeChecks
pub mod LeastLabels
pub mod MovedEdges
pub mod InverseMoves
pub mod LabelSteps
