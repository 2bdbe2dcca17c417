pub mod Examples
pub mod IntLaws
pub mod Ring
pub mod SmallLaws
