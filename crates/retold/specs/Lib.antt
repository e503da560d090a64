-- What a reader has to believe
pub mod Plain
-- Laws
pub mod DecimalLaws
pub mod HeldLaws
