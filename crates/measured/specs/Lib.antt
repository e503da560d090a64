pub mod EventLaws
pub mod WaitLaws
