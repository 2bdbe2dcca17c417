pub mod EdgeSets
