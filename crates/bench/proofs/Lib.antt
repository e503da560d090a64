pub mod ReplyLaws
pub mod ListingLaws
