-- How the code holds one side of a comparison.
use Rattle.std.specs.Prelude.{◌≡◌, ℕ, ℤ, List, true, false, Some, option_map, map}
use Rattle.jsonpath_nodes.specs.document.Document.{Document}
use Rattle.jsonpath_nodes.specs.place.Location.{Location, at}
use Rattle.jsonpath_nodes.specs.compare.Comparisons.{seen}
use Rattle.jsonpath_nodes.specs.compare.Atoms.{seen_with}
use Rattle.jsonpath_nodes.specs.declared.compare.atom.Atom.{Atom}
use Rattle.jsonpath_select.specs.plan.Machine.{Operand, of_path, tags, literal, places}
use Rattle.jsonpath_select.specs.plan.Shown.{tags_of}
use Rattle.jsonpath_select.specs.declared.comparison.side.Side.{Side}

-- for values whose numbers are of one type, by the fraction that each is
module _ {N : Type 0} (f : N → ℤ × ℕ) where
  -- there is one for each location
  abbrev pub SeesEach : Document → List Location → List (Atom N) → Type 0
  SeesEach doc ls atoms = map (λ (a : Atom N). Some (seen_with f a)) atoms ≡ map (λ l. option_map seen (at doc l)) ls

  -- a path's values are there, one for each location, with the tags where they differ; a literal's are there once
  abbrev pub ShowsSide : Document → Operand → Side N → Type 0
  ShowsSide doc (of_path g) s = (s.is_constant ≡ g.shared) × (g.shared ≡ false → s.tags.now ≡ tags_of g.pairs) × SeesEach doc (places g.pairs) s.atoms.items
  ShowsSide doc (tags ts) s = ⊥
  ShowsSide doc (literal vs) s = (s.is_constant ≡ true) × (map (seen_with f) s.atoms.items ≡ vs)
