pub mod Fewness
pub mod HullEntryLaws
pub mod ClassHullLaws
