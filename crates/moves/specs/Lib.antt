-- What a reader has to believe
pub mod Stages
pub mod Move
pub mod Free
pub mod RequestNumbers
pub mod Exchange
-- Laws: accepted events are the moves, with the limit of events or without it
pub mod NeededLaws
-- Laws: every move keeps the request numbers and the exchanges
pub mod Placed
pub mod OfLaws
pub mod PresentLaws
pub mod Effect
pub mod TurnLaws
pub mod CountLaws
-- Lists, and the place of a process
pub mod Lists
pub mod Places
