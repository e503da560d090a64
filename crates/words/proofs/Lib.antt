pub mod StampLaws
pub mod RankLaws
pub mod RefusalLaws
pub mod DerivedLaws
