-- What a reader has to believe
pub mod Bytes
pub mod Held
pub mod Reading
pub mod RoundTrip
pub mod Writing
-- Laws
pub mod SeamLaws
