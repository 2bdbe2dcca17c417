pub mod FigureLaws
pub mod SideLaws
