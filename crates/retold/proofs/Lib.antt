pub mod WordLaws
pub mod FieldLaws
pub mod SaidLaws
pub mod ComposedBackLaws
pub mod ShownBackLaws
pub mod Examples
