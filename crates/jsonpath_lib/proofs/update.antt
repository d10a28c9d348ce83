-- Updates by paths.
pub mod PlaceUpdateLemmas
pub mod AnyOrderLemmas
