-- The exact tree of a text, which keeps numbers' digits and members' order, its image, and why a text is refused.
use Rattle.std.specs.Prelude.{◌≡◌, ℕ, List, Option, Some, None, option_and_then}
use Rattle.json.specs.Json.{Json, if_last, value}
use Rattle.json.specs.Lex.{tokens}
use Rattle.serde_json.specs.Data.{Data}
use Rattle.serde_json.specs.Read.{of_json, max_depth}
use Rattle.json_trees.specs.declared.refusal.DocumentRefusal.{DocumentRefusal}
use Rattle.json_trees.specs.declared.refusal.DocumentRefusal.TheVariants.{NotADocument, HugeExponent, EditNests, EditDiffers, OutOfMemory}

-- the exact tree that a text is, as deep as documents may nest
abbrev pub exact_of : List ℕ → Option Json
exact_of text = option_and_then (λ p. if_last p.0 p.1) (value max_depth (tokens text))

-- The document is the tree's image: the same but for numbers' texts, members' order, and members whose name comes again.
abbrev pub IsImageOf : Json → Data → Type 0
IsImageOf j d = of_json j ≡ Some d

-- the text is no document
abbrev pub IsRefusedText : List ℕ → Type 0
IsRefusedText text = option_and_then of_json (exact_of text) ≡ None

-- the text is no document, or memory ran out
abbrev pub IsWhyRefused : List ℕ → DocumentRefusal → Type 0
IsWhyRefused text NotADocument = IsRefusedText text
IsWhyRefused text HugeExponent = ⊥
IsWhyRefused text EditNests = ⊥
IsWhyRefused text EditDiffers = ⊥
IsWhyRefused text OutOfMemory = Unit {0}
