mod LawRows
mod MannerLemmas
