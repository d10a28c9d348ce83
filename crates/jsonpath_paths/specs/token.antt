-- Tokens: their kinds, the tokens of a text, and what reading one changes.
pub mod Kinds
pub mod Tokens
pub mod Refusals
pub mod Reading
pub mod Looked
