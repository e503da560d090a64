pub mod FlightLaws
