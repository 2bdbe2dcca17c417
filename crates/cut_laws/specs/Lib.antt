pub mod Cuts
pub mod CutSteps
