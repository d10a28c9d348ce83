-- Two trees, each of a text of its own, that are the same but for where their words and quoted texts stand.
use Rattle.std.specs.Prelude.{◌≡◌, ℕ, Bool, List, [], ◌∷◌, Option, ℤ}
use Rattle.jsonpath_paths.specs.declared.text.str_reader.StrRange.{StrRange}
use Rattle.jsonpath_paths.specs.declared.decimal.Decimal.{Decimal}
use Rattle.jsonpath_paths.specs.declared.token.tokens.FilterToken.{FilterToken}
use Rattle.jsonpath_paths.specs.declared.token.tokens.ParseToken.{ParseToken}
use Rattle.jsonpath_paths.specs.declared.token.tokens.ParseToken.TheVariants as t
use Rattle.jsonpath_paths.specs.text.Spans.{IsSpan}
use Rattle.jsonpath_paths.specs.text.Characters.{bytes_at}
use Rattle.jsonpath_paths.specs.tree.Tree.{Path, path, PathSteps, no_steps, step_then, Inner, plain, filter, Condition, lone, compare, join, Term, at_path, literal}

module _ (first second : List ℕ) where
  -- the same bytes stand at the two spans, each of which cuts no character of its text
  pub record IsSameAt (s r : StrRange) : Type 0 where
    pub in_first : IsSpan first s
    pub in_second : IsSpan second r
    pub bytes : bytes_at first s ≡ bytes_at second r

  abbrev pub AreSameAt : List StrRange → List StrRange → Type 0
  AreSameAt [] [] = Unit {0}
  AreSameAt (s ∷ ss) (r ∷ rs) = IsSameAt s r × AreSameAt ss rs
  AreSameAt _ _ = ⊥

  pub data AlikeToken : ParseToken → ParseToken → Type 0 where
    same_all : AlikeToken t.All t.All
    same_key : {s r : StrRange} → IsSameAt s r → AlikeToken (t.Key s) (t.Key r)
    same_keys : {ss rs : List StrRange} → AreSameAt ss rs → AlikeToken (t.Keys ss) (t.Keys rs)
    same_range : (from to : Option ℤ) (step : Option ℕ) → AlikeToken (t.Range from to step) (t.Range from to step)
    same_union : (ns : List ℤ) → AlikeToken (t.Union ns) (t.Union ns)
    same_number : (d : Decimal) → AlikeToken (t.Number d) (t.Number d)
    same_truth : (b : Bool) → AlikeToken (t.Bool b) (t.Bool b)

  mutual
    pub data AlikePath : Path → Path → Type 0 where
      alike_path : {absolute : Bool} {ss rs : PathSteps} → AlikeSteps ss rs → AlikePath (path absolute ss) (path absolute rs)

    pub data AlikeSteps : PathSteps → PathSteps → Type 0 where
      alike_end : AlikeSteps no_steps no_steps
      alike_step : {leaves bracket : Bool} {i j : Inner} {ss rs : PathSteps} → AlikeInner i j → AlikeSteps ss rs
          → AlikeSteps (step_then leaves bracket i ss) (step_then leaves bracket j rs)

    pub data AlikeInner : Inner → Inner → Type 0 where
      alike_plain : {x y : ParseToken} → AlikeToken x y → AlikeInner (plain x) (plain y)
      alike_filter : {c d : Condition} → AlikeCondition c d → AlikeInner (filter c) (filter d)

    pub data AlikeCondition : Condition → Condition → Type 0 where
      alike_lone : {p q : Path} → AlikePath p q → AlikeCondition (lone p) (lone q)
      alike_compare : {a b x y : Term} {op : FilterToken} → AlikeTerm a x → AlikeTerm b y → AlikeCondition (compare a op b) (compare x op y)
      alike_join : {a b x y : Condition} {op : FilterToken} → AlikeCondition a x → AlikeCondition b y → AlikeCondition (join op a b) (join op x y)

    pub data AlikeTerm : Term → Term → Type 0 where
      alike_at_path : {p q : Path} → AlikePath p q → AlikeTerm (at_path p) (at_path q)
      alike_literal : {x y : ParseToken} → AlikeToken x y → AlikeTerm (literal x) (literal y)
