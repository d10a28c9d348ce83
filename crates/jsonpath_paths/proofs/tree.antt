-- Trees, their spans and their token lists.
pub mod ViewLemmas
pub mod ReadableLemmas
pub mod SpanNameLemmas
pub mod ListedLemmas
pub mod WellSpelledLemmas
pub mod DecodedLemmas
pub mod ElsewhereLemmas
pub mod FencedLemmas
pub mod JoinLemmas
