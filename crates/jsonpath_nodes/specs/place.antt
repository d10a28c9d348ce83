-- Where values stand in a document, and its order.
pub mod Location
pub mod Order
pub mod SpotPlace
pub mod Mark
pub mod Owned
pub mod Coded
pub mod LocationText
pub mod NumbersWhere
