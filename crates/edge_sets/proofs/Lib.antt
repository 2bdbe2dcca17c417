pub mod SetLaws
mod EdgeRule
mod FacetRule
