pub mod ComposeLaws
pub mod PassLaws
