mod EmptyEntries
mod PieceVerdicts
mod PieceTraces
mod RuleOrder
