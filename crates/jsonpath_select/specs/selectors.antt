-- What selectors hold and give back, and what updates of it leave.
pub mod Held
pub mod HeldChanges
pub mod PairLends
