pub mod PathRule
