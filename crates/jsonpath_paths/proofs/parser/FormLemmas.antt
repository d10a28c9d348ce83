-- The forms of the grammar as the parser meets them. Each relation says that the tokens `from`, up to the tokens `to`
-- that are left, spell a part of a tree; a form takes the blanks behind it, but for steps, words and terms.
use Rattle.std.specs.Prelude.{◌≡◌, ℕ, suc, Bool, true, false, List, [], ◌∷◌, Option, Some, None, ℤ}
use Rattle.jsonpath_paths.specs.declared.text.str_reader.StrRange.{StrRange}
use Rattle.jsonpath_paths.specs.declared.decimal.Decimal.{Decimal}
use Rattle.jsonpath_paths.specs.declared.token.tokens.FilterToken.{FilterToken}
use Rattle.jsonpath_paths.specs.declared.token.tokens.Kind.{Kind}
use Rattle.jsonpath_paths.specs.declared.token.tokens.Kind.TheVariants as k
use Rattle.jsonpath_paths.specs.declared.token.tokens.ParseToken.{ParseToken}
use Rattle.jsonpath_paths.specs.declared.token.tokens.ParseToken.TheVariants as t
use Rattle.jsonpath_paths.specs.Grammar.{Lexemes, Takes, comparison, connective, whole_number, levels}
use Rattle.jsonpath_paths.specs.Numbers.{index_of, range_step_of, decimal_of}
use Rattle.jsonpath_paths.specs.Literals.{truth_of}
use Rattle.jsonpath_paths.specs.text.Characters.{bytes_at}
use Rattle.jsonpath_paths.specs.plan.ParsedParts.{skip}
use Rattle.jsonpath_paths.specs.tree.Tree.{Path, PathSteps, Inner, Condition, Term}
use Rattle.jsonpath_paths.specs.tree.Tree as tree

-- the first token is of this kind
abbrev pub Eats : Kind → Lexemes → Lexemes → Type 0
Eats kind from to = (s : StrRange) × Takes kind s from to

-- quoted texts in double quotes or in single ones
abbrev pub quote_kind : Bool → Kind
quote_kind true = k.DoubleQuoted
quote_kind false = k.SingleQuoted

abbrev pub Quoted : StrRange → Lexemes → Lexemes → Type 0
Quoted s from to = (double : Bool) × Takes (quote_kind double) s from to

module _ (text : List ℕ) where
  -- words

  abbrev pub IndexAt : ℤ → Lexemes → Lexemes → Type 0
  IndexAt n from to = (s : StrRange) × Takes k.Key s from to × (index_of (bytes_at text s) ≡ Some n)

  abbrev pub RangeStepAt : ℕ → Lexemes → Lexemes → Type 0
  RangeStepAt n from to = (s : StrRange) × Takes k.Key s from to × (range_step_of (bytes_at text s) ≡ Some n)

  -- a literal number: a word, or two with a point between them
  pub data NumberAt : Decimal → Lexemes → Lexemes → Type 0 where
    whole : {d : Decimal} {from to : Lexemes} (s : StrRange) → Takes k.Key s from to → decimal_of (bytes_at text s) [] ≡ Some d → NumberAt d from to
    point : {d : Decimal} {from to : Lexemes} (s : StrRange) (a b : Lexemes) (f : StrRange) → Takes k.Key s from a → Eats k.Dot a b → Takes k.Key f b to
        → decimal_of (bytes_at text s) (bytes_at text f) ≡ Some d → NumberAt d from to

  -- the parts of a range

  -- an index and the blanks behind it, or nothing
  pub data BoundAt : Option ℤ → Lexemes → Lexemes → Type 0 where
    no_bound : {ts : Lexemes} → BoundAt None ts ts
    bound : {n : ℤ} {from : Lexemes} (mid : Lexemes) → IndexAt n from mid → BoundAt (Some n) from (skip mid)

  -- a second colon and a step behind it, each of which may be missing, with their blanks
  pub data StepPartAt : Option ℕ → Lexemes → Lexemes → Type 0 where
    no_step_part : {ts : Lexemes} → StepPartAt None ts ts
    bare_colon : {from : Lexemes} (a : Lexemes) → Eats k.Split from a → StepPartAt None from (skip a)
    step_part : {n : ℕ} {from : Lexemes} (a b : Lexemes) → Eats k.Split from a → RangeStepAt n (skip a) b → StepPartAt (Some n) from (skip b)

  -- lists: a comma stands before each entry

  pub data IndexesAt : List ℤ → Lexemes → Lexemes → Type 0 where
    no_index : {ts : Lexemes} → IndexesAt [] ts (skip ts)
    one_index : {n : ℤ} {ns : List ℤ} {from to : Lexemes} (a b : Lexemes) → Eats k.Comma from a → IndexAt n (skip a) b → IndexesAt ns b to → IndexesAt (n ∷ ns) from to

  pub data NamesAt : List StrRange → Lexemes → Lexemes → Type 0 where
    no_name : {ts : Lexemes} → NamesAt [] ts ts
    one_name : {s : StrRange} {ss : List StrRange} {from to : Lexemes} (a b : Lexemes) → Eats k.Comma from a → Quoted s (skip a) b → NamesAt ss (skip b) to
        → NamesAt (s ∷ ss) from to

  -- what follows the dots of a step
  pub data WordAt : ParseToken → Lexemes → Lexemes → Type 0 where
    dot_word : {s : StrRange} {from to : Lexemes} → Takes k.Key s from to → WordAt (t.Key s) from to
    dot_all : {from to : Lexemes} → Eats k.Asterisk from to → WordAt t.All from to

  -- what stands in brackets, but for a filter
  pub data PlainAt : ParseToken → Lexemes → Lexemes → Type 0 where
    in_all : {from : Lexemes} (a : Lexemes) → Eats k.Asterisk from a → PlainAt t.All from (skip a)
    in_index : {n : ℤ} {from : Lexemes} (a : Lexemes) → IndexAt n from a → PlainAt (t.Number (whole_number n)) from (skip a)
    in_union : {n m : ℤ} {ns : List ℤ} {from to : Lexemes} (a b c : Lexemes) → IndexAt n from a → Eats k.Comma (skip a) b → IndexAt m (skip b) c → IndexesAt ns c to
        → PlainAt (t.Union (n ∷ m ∷ ns)) from to
    in_range : {first last : Option ℤ} {step : Option ℕ} {from to : Lexemes} (a b c : Lexemes) → BoundAt first from a → Eats k.Split a b → BoundAt last (skip b) c
        → StepPartAt step c to → PlainAt (t.Range first last step) from to
    in_name : {s : StrRange} {from : Lexemes} (a : Lexemes) → Quoted s from a → PlainAt (t.Key s) from (skip a)
    in_names : {s : StrRange} {ss : List StrRange} {s' : StrRange} {from to : Lexemes} (a b c : Lexemes) → Quoted s from a → Eats k.Comma a b → Quoted s' (skip b) c
        → NamesAt ss (skip c) to → PlainAt (t.Keys (s ∷ s' ∷ ss)) from to

  pub data LiteralAt : ParseToken → Lexemes → Lexemes → Type 0 where
    quoted : {s : StrRange} {from to : Lexemes} → Quoted s from to → LiteralAt (t.Key s) from to
    number : {d : Decimal} {from to : Lexemes} → NumberAt d from to → LiteralAt (t.Number d) from to
    truth : {b : Bool} {from to : Lexemes} (s : StrRange) → Takes k.Key s from to → truth_of (bytes_at text s) ≡ Some b → LiteralAt (t.Bool b) from to

  -- steps and filters: the number says how many levels may still be opened

  mutual
    pub data StepsAt : ℕ → PathSteps → Lexemes → Lexemes → Type 0 where
      no_step : {n : ℕ} {ts : Lexemes} → StepsAt n tree.no_steps ts ts
      one_step : {n : ℕ} {leaves bracket : Bool} {inner : Inner} {ss : PathSteps} {from to : Lexemes} (mid : Lexemes) → StepAt n leaves bracket inner from mid
          → StepsAt n ss mid to → StepsAt n (tree.step_then leaves bracket inner ss) from to

    pub data StepAt : ℕ → Bool → Bool → Inner → Lexemes → Lexemes → Type 0 where
      -- .word and .*
      dot : {n : ℕ} {token : ParseToken} {from to : Lexemes} (a : Lexemes) → Eats k.Dot from a → WordAt token a to → StepAt n false false (tree.plain token) from to
      -- ..word and ..*
      dots : {n : ℕ} {token : ParseToken} {from to : Lexemes} (a b : Lexemes) → Eats k.Dot from a → Eats k.Dot a b → WordAt token b to
          → StepAt n true false (tree.plain token) from to
      -- [ inner ]
      bracket : {n : ℕ} {inner : Inner} {from to : Lexemes} (a b : Lexemes) → Eats k.OpenArray from a → InnerAt n inner (skip a) b → Eats k.CloseArray b to
          → StepAt n false true inner from to
      -- .[inner ], with no blank before its inner part
      dot_bracket : {n : ℕ} {inner : Inner} {from to : Lexemes} (a b c : Lexemes) → Eats k.Dot from a → Eats k.OpenArray a b → InnerAt n inner b c
          → Eats k.CloseArray c to → StepAt n false true inner from to
      -- ..[ inner ]
      dots_bracket : {n : ℕ} {inner : Inner} {from to : Lexemes} (a b c d : Lexemes) → Eats k.Dot from a → Eats k.Dot a b → Eats k.OpenArray b c
          → InnerAt n inner (skip c) d → Eats k.CloseArray d to → StepAt n true true inner from to

    pub data InnerAt : ℕ → Inner → Lexemes → Lexemes → Type 0 where
      in_plain : {n : ℕ} {token : ParseToken} {from to : Lexemes} → PlainAt token from to → InnerAt n (tree.plain token) from to
      -- ?( conditions )
      in_filter : {n : ℕ} {c : Condition} {from : Lexemes} (a b d : Lexemes) → Eats k.Question from a → Eats k.OpenParenthesis a b → ConditionAt n c b d
          → InnerAt (suc n) (tree.filter c) from (skip d)

    -- a condition, blanks before it, and the parenthesis that closes it
    pub data ConditionAt : ℕ → Condition → Lexemes → Lexemes → Type 0 where
      closed : {n : ℕ} {c : Condition} {from to : Lexemes} (a : Lexemes) → PartAt n c (skip from) a → Eats k.CloseParenthesis (skip a) to → ConditionAt n c from to
      -- both connectives group to the right
      joined : {n : ℕ} {c d : Condition} {o : FilterToken} {from to : Lexemes} (kind : Kind) (a b : Lexemes) → PartAt (suc n) c (skip from) a
          → connective kind ≡ Some o → Eats kind (skip a) b → ConditionAt n d b to → ConditionAt (suc n) (tree.join o c d) from to

    -- a condition in parentheses, a comparison, or a path from the candidate
    pub data PartAt : ℕ → Condition → Lexemes → Lexemes → Type 0 where
      parentheses : {n : ℕ} {c : Condition} {from to : Lexemes} (a : Lexemes) → Eats k.OpenParenthesis from a → ConditionAt n c a to → PartAt (suc n) c from to
      compared : {n : ℕ} {l r : Term} {o : FilterToken} {from to : Lexemes} (kind : Kind) (a b : Lexemes) → TermAt n l from a → comparison kind ≡ Some o
          → Eats kind (skip a) b → TermAt n r (skip b) to → PartAt n (tree.compare l o r) from to
      found : {n : ℕ} {ss : PathSteps} {from to : Lexemes} (a : Lexemes) → Eats k.At from a → StepsAt n ss a to → PartAt n (tree.lone (tree.path false ss)) from to

    pub data TermAt : ℕ → Term → Lexemes → Lexemes → Type 0 where
      relative : {n : ℕ} {ss : PathSteps} {from to : Lexemes} (a : Lexemes) → Eats k.At from a → StepsAt n ss a to → TermAt n (tree.at_path (tree.path false ss)) from to
      absolute : {n : ℕ} {ss : PathSteps} {from to : Lexemes} (a : Lexemes) → Eats k.Absolute from a → StepsAt n ss a to → TermAt n (tree.at_path (tree.path true ss)) from to
      of_literal : {n : ℕ} {token : ParseToken} {from to : Lexemes} → LiteralAt token from to → TermAt n (tree.literal token) from to

-- the whole of the tokens: a dollar sign, steps, and blanks
pub record PathAt (text : List ℕ) (whole : Path) (from : Lexemes) : Type 0 where
  pub steps : PathSteps
  pub after_root : Lexemes
  pub end : Lexemes
  pub is : whole ≡ tree.path true steps
  pub root : Eats k.Absolute from after_root
  pub spelled : StepsAt text levels steps after_root end
  pub only_blanks : skip end ≡ []
