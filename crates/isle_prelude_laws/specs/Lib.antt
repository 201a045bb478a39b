pub mod GivenCalls
pub mod HonestMeaning
pub mod RoundTrip
pub mod PredicateFlags
