-- The machine's lists, where they come from one list for each candidate.
use Rattle.std.proofs.Common.{◌≡◌, ℕ, suc, ◌==◌, ◌<◌, ◌≢◌, Bool, true, false, List, [], ◌∷◌, ◌++◌, length, cond, refl, ap, ap₂, ◌∙◌, append-nil, arith, eq-eqb, ne_eqb, filter}
use Rattle.jsonpath_nodes.specs.document.Document.{Document}
use Rattle.jsonpath_paths.specs.tree.Tree.{Path, path, PathSteps, Term}
use Rattle.jsonpath_paths.specs.tree.Tree as tree
use Rattle.jsonpath_paths.specs.declared.token.tokens.FilterToken.{FilterToken}
use Rattle.jsonpath_paths.specs.declared.token.tokens.ParseToken.{ParseToken}
use Rattle.jsonpath_nodes.specs.compare.Comparisons.{Seen}
use Rattle.jsonpath_nodes.specs.place.Location.{Location}
use Rattle.jsonpath_nodes.specs.place.NumbersWhere.{numbers_where}
use Rattle.jsonpath_select.specs.Meaning.{is_some_location, values_at}
use Rattle.jsonpath_select.specs.Parts.{literals, has_pair, joined}
use Rattle.jsonpath_select.specs.plan.Machine.{Tagged, tagged, places, front_of_tag, behind_tag, each_tag, some_tags, all_tags_or_none, Found, found_tags, list_count_for_candidates, starts, Operand, of_path, literal, values_front, values_behind, compared, is_next, after, joined_tags, kept_by_number, spread}
use Rattle.jsonpath_select.proofs.tagged.GroupLemmas.{places_tagged}

same_tag : (t : ℕ) → (t == t) ≡ true
same_tag t = eq-eqb t t refl

other_tag : (t m : ℕ) → t < m → (m == t) ≡ false
other_tag t m h = let apart : m ≢ t = omega arith in ne_eqb m t apart

-- ---- runs of one tag

front_of_tag-tagged : (t : ℕ) (ls : List Location) (ps : List Tagged) → front_of_tag t (tagged t ls ++ ps) ≡ ls ++ front_of_tag t ps
front_of_tag-tagged t [] ps = refl
front_of_tag-tagged t (l ∷ ls) ps = rw (same_tag t) (ap (λ (ms : List Location). l ∷ ms) (front_of_tag-tagged t ls ps))

behind_tag-tagged : (t : ℕ) (ls : List Location) (ps : List Tagged) → behind_tag t (tagged t ls ++ ps) ≡ behind_tag t ps
behind_tag-tagged t [] ps = refl
behind_tag-tagged t (l ∷ ls) ps = rw (same_tag t) (behind_tag-tagged t ls ps)

front_of_tag-other : (t m : ℕ) (ls : List Location) (ps : List Tagged) → t < m → front_of_tag t ps ≡ [] → front_of_tag t (tagged m ls ++ ps) ≡ []
front_of_tag-other t m [] ps below h = h
front_of_tag-other t m (l ∷ ls) ps below h = rw (other_tag t m below) refl

behind_tag-other : (t m : ℕ) (ls : List Location) (ps : List Tagged) → t < m → behind_tag t ps ≡ ps → behind_tag t (tagged m ls ++ ps) ≡ tagged m ls ++ ps
behind_tag-other t m [] ps below h = h
behind_tag-other t m (l ∷ ls) ps below h = rw (other_tag t m below) refl

module _ (f : Location → List Location) where
  front_of_tag-later : (t m : ℕ) (cs : List Location) → t < m → front_of_tag t (spread f m cs) ≡ []
  front_of_tag-later t m [] below = refl
  front_of_tag-later t m (c ∷ cs) below = front_of_tag-other t m (f c) (spread f (suc m) cs) below (front_of_tag-later t (suc m) cs (omega arith))

  behind_tag-later : (t m : ℕ) (cs : List Location) → t < m → behind_tag t (spread f m cs) ≡ spread f m cs
  behind_tag-later t m [] below = refl
  behind_tag-later t m (c ∷ cs) below = behind_tag-other t m (f c) (spread f (suc m) cs) below (behind_tag-later t (suc m) cs (omega arith))

  pub front_of_tag-spread : (t : ℕ) (c : Location) (cs : List Location) → front_of_tag t (spread f t (c ∷ cs)) ≡ f c
  front_of_tag-spread t c cs =
      front_of_tag-tagged t (f c) (spread f (suc t) cs) ∙ ap (λ (ms : List Location). f c ++ ms) (front_of_tag-later t (suc t) cs (omega arith)) ∙ append-nil (f c)

  pub behind_tag-spread : (t : ℕ) (c : Location) (cs : List Location) → behind_tag t (spread f t (c ∷ cs)) ≡ spread f (suc t) cs
  behind_tag-spread t c cs = behind_tag-tagged t (f c) (spread f (suc t) cs) ∙ behind_tag-later t (suc t) cs (omega arith)

pub each_tag-spread : (f : Location → List Location) (g : List Location → List Location) (t : ℕ) (cs : List Location) → each_tag g t (length cs) (spread f t cs) ≡ spread (λ c. g (f c)) t cs
each_tag-spread f g t [] = refl
each_tag-spread f g t (c ∷ cs) =
    ap₂ (λ (ls : List Location) (ps : List Tagged). tagged t (g ls) ++ each_tag g (suc t) (length cs) ps) (front_of_tag-spread f t c cs) (behind_tag-spread f t c cs)
    ∙ ap (λ (ps : List Tagged). tagged t (g (f c)) ++ ps) (each_tag-spread f g (suc t) cs)

-- ---- the root in place of the candidates

pub list_count_for_candidates-starts : (shared : Bool) (cs : List Location) → list_count_for_candidates shared (length cs) ≡ length (starts shared cs)
list_count_for_candidates-starts true cs = refl
list_count_for_candidates-starts false cs = refl

pub places_alone : (t : ℕ) (ls : List Location) → places (tagged t ls ++ []) ≡ ls
places_alone t ls = ap places (append-nil (tagged t ls)) ∙ places_tagged t ls

-- ---- tags of candidates that pass a test

pub some_tags-spread : (f : Location → List Location) (t : ℕ) (cs : List Location) → some_tags t (length cs) (spread f t cs) ≡ numbers_where (λ c. is_some_location (f c)) t cs
some_tags-spread f t [] = refl
some_tags-spread f t (c ∷ cs) =
    ap₂ (λ (ls : List Location) (ps : List Tagged). cond (is_some_location ls) (t ∷ some_tags (suc t) (length cs) ps) (some_tags (suc t) (length cs) ps)) (front_of_tag-spread f t c cs) (behind_tag-spread f t c cs)
    ∙ ap (λ (ts : List ℕ). cond (is_some_location (f c)) (t ∷ ts) ts) (some_tags-spread f (suc t) cs)

pub chosen-same : (b : Bool) (t : ℕ) (cs : List Location) → all_tags_or_none b t (length cs) ≡ numbers_where (λ c. b) t cs
chosen-same b t [] = refl
chosen-same b t (c ∷ cs) = ap (λ (ts : List ℕ). cond b (t ∷ ts) ts) (chosen-same b (suc t) cs)

-- where a path leads from a candidate, and the values of a term there: as the meaning says, or by sets
module _ (text : List ℕ) (doc : Document) (reach : Path → Location → List Location) (values_of : Term → Location → List Seen) where
  -- what a path finds, for candidates numbered from t on
  abbrev pub path_from : Path → ℕ → List Location → Found
  path_from (path true ss) t cs = record { shared = true; pairs = spread (reach (path true ss)) 0 ([] ∷ []) }
  path_from (path false ss) t cs = record { shared = false; pairs = spread (reach (path false ss)) t cs }

  -- what a term leaves, for candidates numbered from t on
  abbrev pub term_from : Term → ℕ → List Location → Operand
  term_from (tree.at_path p) t cs = of_path (path_from p t cs)
  term_from (tree.literal token) t cs = literal (literals text token)

  module _ (rooted : (ss : PathSteps) (c : Location) → reach (path true ss) [] ≡ reach (path true ss) c) where
    pub path_tags : (p : Path) (cs : List Location) → found_tags (path_from p 0 cs).shared (length cs) (path_from p 0 cs).pairs ≡ numbers_where (λ c. is_some_location (reach p c)) 0 cs
    path_tags (path true ss) cs =
        ap (λ (ls : List Location). all_tags_or_none (is_some_location ls) 0 (length cs)) (places_alone 0 (reach (path true ss) [])) ∙ chosen-same (is_some_location (reach (path true ss) [])) 0 cs
        ∙ (λ i. numbers_where (λ c. is_some_location (rooted ss c i)) 0 cs)
    path_tags (path false ss) cs = some_tags-spread (reach (path false ss)) 0 cs

    module _ (at_paths : (p : Path) (c : Location) → values_at doc (reach p c) ≡ values_of (tree.at_path p) c) (at_literals : (token : ParseToken) (c : Location) → literals text token ≡ values_of (tree.literal token) c) where
      front_of_tag-term : (a : Term) (t : ℕ) (c : Location) (cs : List Location) → values_front doc t (term_from a t (c ∷ cs)) ≡ values_of a c
      front_of_tag-term (tree.at_path (path true ss)) t c cs = ap (values_at doc) (places_alone 0 (reach (path true ss) []) ∙ rooted ss c) ∙ at_paths (path true ss) c
      front_of_tag-term (tree.at_path (path false ss)) t c cs = ap (values_at doc) (front_of_tag-spread (reach (path false ss)) t c cs) ∙ at_paths (path false ss) c
      front_of_tag-term (tree.literal token) t c cs = at_literals token c

      behind_tag-term : (a : Term) (t : ℕ) (c : Location) (cs : List Location) → values_behind t (term_from a t (c ∷ cs)) ≡ term_from a (suc t) cs
      behind_tag-term (tree.at_path (path false ss)) t c cs = ap (λ (ps : List Tagged). of_path (record { shared = false; pairs = ps })) (behind_tag-spread (reach (path false ss)) t c cs)
      behind_tag-term _ t c cs = refl

      pub compared-terms : (op : FilterToken) (a b : Term) (t : ℕ) (cs : List Location)
          → compared doc op t (length cs) (term_from a t cs) (term_from b t cs) ≡ numbers_where (λ c. has_pair op (values_of a c) (values_of b c)) t cs
      compared-terms op a b t [] = refl
      compared-terms op a b t (c ∷ cs) =
          let test : has_pair op (values_front doc t (term_from a t (c ∷ cs))) (values_front doc t (term_from b t (c ∷ cs))) ≡ has_pair op (values_of a c) (values_of b c) =
          ap₂ (has_pair op) (front_of_tag-term a t c cs) (front_of_tag-term b t c cs) in
          let later : compared doc op (suc t) (length cs) (values_behind t (term_from a t (c ∷ cs))) (values_behind t (term_from b t (c ∷ cs))) ≡ numbers_where (λ d. has_pair op (values_of a d) (values_of b d)) (suc t) cs =
          ap₂ (compared doc op (suc t) (length cs)) (behind_tag-term a t c cs) (behind_tag-term b t c cs) ∙ compared-terms op a b (suc t) cs in
          ap₂ (λ (b : Bool) (ts : List ℕ). cond b (t ∷ ts) ts) test later

-- ---- ascending tags

module _ (test : Location → Bool) where
  next-later : (t m : ℕ) (cs : List Location) → t < m → is_next t (numbers_where test m cs) ≡ false
  next-later t m [] below = refl
  next-later t m (c ∷ cs) below = grind (arith, next-later t (suc m) cs (omega arith), other_tag t m below)

  after-later : (t m : ℕ) (cs : List Location) → t < m → after t (numbers_where test m cs) ≡ numbers_where test m cs
  after-later t m [] below = refl
  after-later t m (c ∷ cs) below = grind (arith, after-later t (suc m) cs (omega arith), other_tag t m below)

  pub next-chosen : (t : ℕ) (c : Location) (cs : List Location) → is_next t (numbers_where test t (c ∷ cs)) ≡ test c
  next-chosen t c cs = grind (arith, same_tag t, next-later t (suc t) cs (omega arith))

  pub after-chosen : (t : ℕ) (c : Location) (cs : List Location) → after t (numbers_where test t (c ∷ cs)) ≡ numbers_where test (suc t) cs
  after-chosen t c cs = grind (arith, same_tag t, after-later t (suc t) cs (omega arith))

  pub kept-chosen : (t : ℕ) (ps : List Tagged) → kept_by_number t (numbers_where test t (places ps)) ps ≡ filter (λ (p : Tagged). test p.1) ps
  kept-chosen t [] = refl
  kept-chosen t (p ∷ ps) =
      ap₂ (λ (b : Bool) (ts : List ℕ). cond b (p ∷ kept_by_number (suc t) ts ps) (kept_by_number (suc t) ts ps)) (next-chosen t p.1 (places ps)) (after-chosen t p.1 (places ps))
      ∙ ap (λ (qs : List Tagged). cond (test p.1) (p ∷ qs) qs) (kept-chosen (suc t) ps)

  pub filter-tagged : (t : ℕ) (ls : List Location) (ps : List Tagged) → filter (λ (p : Tagged). test p.1) (tagged t ls ++ ps) ≡ tagged t (filter test ls) ++ filter (λ (p : Tagged). test p.1) ps
  filter-tagged t [] ps = refl
  filter-tagged t (l ∷ ls) ps = grind (arith, filter-tagged t ls ps)

  pub filter-spread : (f : Location → List Location) (t : ℕ) (cs : List Location) → filter (λ (p : Tagged). test p.1) (spread f t cs) ≡ spread (λ c. filter test (f c)) t cs
  filter-spread f t [] = refl
  filter-spread f t (c ∷ cs) = filter-tagged t (f c) (spread f (suc t) cs) ∙ ap (λ (qs : List Tagged). tagged t (filter test (f c)) ++ qs) (filter-spread f (suc t) cs)

pub joined-chosen : (op : FilterToken) (one two : Location → Bool) (t : ℕ) (cs : List Location)
    → joined_tags op t (length cs) (numbers_where one t cs) (numbers_where two t cs) ≡ numbers_where (λ c. joined op (one c) (two c)) t cs
joined-chosen op one two t [] = refl
joined-chosen op one two t (c ∷ cs) =
    let test : joined op (is_next t (numbers_where one t (c ∷ cs))) (is_next t (numbers_where two t (c ∷ cs))) ≡ joined op (one c) (two c) =
    ap₂ (joined op) (next-chosen one t c cs) (next-chosen two t c cs) in
    let later : joined_tags op (suc t) (length cs) (after t (numbers_where one t (c ∷ cs))) (after t (numbers_where two t (c ∷ cs))) ≡ numbers_where (λ d. joined op (one d) (two d)) (suc t) cs =
    ap₂ (joined_tags op (suc t) (length cs)) (after-chosen one t c cs) (after-chosen two t c cs) ∙ joined-chosen op one two (suc t) cs in
    ap₂ (λ (b : Bool) (ts : List ℕ). cond b (t ∷ ts) ts) test later
