-- What a reader has to believe of this crate: how an event is planned
pub mod Plan
pub mod Checks
pub mod PlanBy
