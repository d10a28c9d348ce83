-- The machine: it takes one instruction after the other, for all candidates at once. A term is a list of pairs of a tag,
-- which is the candidate's number, and a location; a condition is an ascending list of tags. What begins at the root is led
-- once, as if for one candidate, and serves them all.
use Rattle.std.specs.Prelude.{ℕ, zero, suc, ◌==◌, Bool, true, false, ◌&&◌, List, [], ◌∷◌, ◌++◌, map, length, if◌then◌else◌, Option, Some, None, option_map, option_and_then}
use Rattle.jsonpath_nodes.specs.document.Document.{Document}
use Rattle.jsonpath_paths.specs.declared.token.tokens.FilterToken.{FilterToken}
use Rattle.jsonpath_paths.specs.declared.token.tokens.ParseToken.{ParseToken}
use Rattle.std.specs.List.{list_any}
use Rattle.jsonpath_nodes.specs.place.Location.{Location, is_same}
use Rattle.jsonpath_nodes.specs.place.NumbersWhere.{numbers_where}
use Rattle.jsonpath_nodes.specs.place.Order.{once_in_order}
use Rattle.jsonpath_nodes.specs.step.SameMembers as same_members
use Rattle.jsonpath_nodes.specs.step.Steps.{every, step, all_below, flattened}
use Rattle.jsonpath_nodes.specs.compare.Comparisons.{Seen}
use Rattle.jsonpath_select.specs.Meaning.{is_some_location, values_at}
use Rattle.jsonpath_select.specs.Parts.{plain_of, literals, has_pair, joined}
use Rattle.jsonpath_select.specs.plan.Code.{Instruction, start, plain_step, enter, leave, constant, compares, joins, topmost, in_order, distinct, put_back}

abbrev pub Tagged : Type 0
Tagged = ℕ × Location

abbrev pub tagged : ℕ → List Location → List Tagged
tagged t ls = map (λ l. (t, l)) ls

abbrev pub places : List Tagged → List Location
places ps = map (λ (p : Tagged). p.1) ps

-- ---- the run of one tag at the front, and what is behind it

abbrev pub front_of_tag : ℕ → List Tagged → List Location
front_of_tag t [] = []
front_of_tag t (p ∷ ps) = if p.0 == t then p.1 ∷ front_of_tag t ps else []

abbrev pub behind_tag : ℕ → List Tagged → List Tagged
behind_tag t [] = []
behind_tag t (p ∷ ps) = if p.0 == t then behind_tag t ps else p ∷ ps

-- ---- tag by tag, from t on, for k tags

-- where f leads each tag's locations
abbrev pub each_tag : (List Location → List Location) → ℕ → ℕ → List Tagged → List Tagged
each_tag f t zero ps = []
each_tag f t (suc k) ps = tagged t (f (front_of_tag t ps)) ++ each_tag f (suc t) k (behind_tag t ps)

-- the tags that have a location
abbrev pub some_tags : ℕ → ℕ → List Tagged → List ℕ
some_tags t zero ps = []
some_tags t (suc k) ps = if is_some_location (front_of_tag t ps) then t ∷ some_tags (suc t) k (behind_tag t ps) else some_tags (suc t) k (behind_tag t ps)

-- so many tags from t on, where a condition holds at all of them, or none
abbrev pub all_tags_or_none : Bool → ℕ → ℕ → List ℕ
all_tags_or_none b t zero = []
all_tags_or_none b t (suc k) = if b then t ∷ all_tags_or_none b (suc t) k else all_tags_or_none b (suc t) k

-- ---- where paths have led

-- of each candidate by itself, or from the root, once for all of them: then each pair has the tag 0
pub record Found : Type 0 where
  pub shared : Bool
  pub pairs : List Tagged

-- how many lists there are, for so many candidates
abbrev pub list_count_for_candidates : Bool → ℕ → ℕ
list_count_for_candidates true k = 1
list_count_for_candidates false k = k

-- the locations at a tag, and what is behind them
abbrev pub locations_at_tag : Bool → ℕ → List Tagged → List Location
locations_at_tag true t ps = places ps
locations_at_tag false t ps = front_of_tag t ps

abbrev pub pairs_behind : Bool → ℕ → List Tagged → List Tagged
pairs_behind true t ps = ps
pairs_behind false t ps = behind_tag t ps

-- the tags, of so many, that have a location
abbrev pub found_tags : Bool → ℕ → List Tagged → List ℕ
found_tags true k ps = all_tags_or_none (is_some_location (places ps)) 0 k
found_tags false k ps = some_tags 0 k ps

-- what is still to be used: a path's locations, a condition's tags, or a literal's values, which serve each candidate
pub data Operand : Type 0 where
  of_path : Found → Operand
  tags : List ℕ → Operand
  literal : List Seen → Operand

-- what a comparison sees of an operand at a tag, and what is behind it
abbrev pub values_front : Document → ℕ → Operand → List Seen
values_front doc t (of_path f) = values_at doc (locations_at_tag f.shared t f.pairs)
values_front doc t (tags ts) = []
values_front doc t (literal vs) = vs

abbrev pub values_behind : ℕ → Operand → Operand
values_behind t (of_path f) = of_path (record f { pairs = pairs_behind f.shared t f.pairs })
values_behind t (tags ts) = tags ts
values_behind t (literal vs) = literal vs

-- the tags at which some left and some right value satisfy the comparison
abbrev pub compared : Document → FilterToken → ℕ → ℕ → Operand → Operand → List ℕ
compared doc op t zero a b = []
compared doc op t (suc k) a b =
    let later = compared doc op (suc t) k (values_behind t a) (values_behind t b) in
    if has_pair op (values_front doc t a) (values_front doc t b) then t ∷ later else later

abbrev pub is_next : ℕ → List ℕ → Bool
is_next t [] = false
is_next t (u ∷ us) = u == t

abbrev pub after : ℕ → List ℕ → List ℕ
after t [] = []
after t (u ∷ us) = if u == t then us else u ∷ us

-- the tags that are in both lists, or in one of them
abbrev pub joined_tags : FilterToken → ℕ → ℕ → List ℕ → List ℕ → List ℕ
joined_tags op t zero a b = []
joined_tags op t (suc k) a b =
    let later = joined_tags op (suc t) k (after t a) (after t b) in
    if joined op (is_next t a) (is_next t b) then t ∷ later else later

-- those whose number, from t on, is among the tags
abbrev pub kept_by_number : ℕ → List ℕ → List Tagged → List Tagged
kept_by_number t ts [] = []
kept_by_number t ts (p ∷ ps) = if is_next t ts then p ∷ kept_by_number (suc t) (after t ts) ps else kept_by_number (suc t) (after t ts) ps

-- for each location in turn, by its number, what f gives
abbrev pub spread : (Location → List Location) → ℕ → List Location → List Tagged
spread f t [] = []
spread f t (c ∷ cs) = tagged t (f c) ++ spread f (suc t) cs

-- ---- the machine

-- the candidates of each filter that is open, the innermost first, with the tags of those outside; and the operands
pub record State : Type 0 where
  pub frames : List Found
  pub operands : List Operand

-- a condition's tags, out of so many; a path alone holds where it reaches something
abbrev pub as_tags : ℕ → Operand → Option (List ℕ)
as_tags k (of_path f) = Some (found_tags f.shared k f.pairs)
as_tags k (tags ts) = Some ts
as_tags k (literal vs) = None

abbrev pub is_side : Operand → Bool
is_side (of_path f) = true
is_side (tags ts) = false
is_side (literal vs) = true

-- where a plain step leads
abbrev pub stepped : List ℕ → Document → Bool → ParseToken → List Location → List Location
stepped text doc leaves token ls = step doc (plain_of text token) (if leaves then all_below doc ls else ls)

-- the candidates of a filter
abbrev pub gathered : Document → Bool → Bool → List Location → List Location
gathered doc leaves deep ls =
    let base = if leaves then step doc every (all_below doc ls) else ls in
    if deep then flattened doc base else base

-- the candidates of a filter for each tag, of so many
abbrev pub entered : Document → Bool → Bool → ℕ → List Tagged → List Tagged
entered doc false false count ps = ps
entered doc leaves deep count ps = each_tag (gathered doc leaves deep) 0 count ps

-- the candidates that a path is led from: the root in place of all of them, or each
abbrev pub starts : Bool → List Location → List Location
starts true cs = [] ∷ []
starts false cs = cs

abbrev pub itself : Location → List Location
itself l = l ∷ []

-- where a path begins
abbrev pub start_of_path : Bool → List Location → Found
start_of_path absolute cs = record { shared = absolute; pairs = spread itself 0 (starts absolute cs) }

-- how many the candidates are
abbrev pub number_of : Found → ℕ
number_of cand = length (places cand.pairs)

-- where f leads each list of the locations on top
abbrev pub top_led : (List Location → List Location) → Found → List Operand → Option (List Operand)
top_led f cand (of_path g ∷ os) = Some (of_path (record g { pairs = each_tag f 0 (list_count_for_candidates g.shared (number_of cand)) g.pairs }) ∷ os)
top_led f cand _ = None

-- those of the pairs whose location is among some others
abbrev pub kept_among : List Location → List Tagged → List Tagged
kept_among others ps = kept_by_number 0 (numbers_where (λ l. list_any (is_same l) (once_in_order others)) 0 (places ps)) ps

-- one instruction, at the innermost candidates and the operands
abbrev pub on_operands : List ℕ → Document → Instruction → Found → List Operand → Option (List Operand)
on_operands text doc (start absolute) cand os = Some (of_path (start_of_path absolute (places cand.pairs)) ∷ os)
on_operands text doc (plain_step leaves token) cand os = top_led (stepped text doc leaves token) cand os
on_operands text doc topmost cand os = top_led same_members.topmost cand os
on_operands text doc in_order cand os = top_led once_in_order cand os
on_operands text doc put_back cand (of_path passed ∷ of_path f ∷ os) = Some (of_path (record f { pairs = kept_among (places passed.pairs) f.pairs }) ∷ os)
on_operands text doc (constant token) cand os = Some (literal (literals text token) ∷ os)
on_operands text doc (compares op) cand (b ∷ a ∷ os) =
    if is_side a && is_side b then Some (tags (compared doc op 0 (number_of cand) a b) ∷ os) else None
on_operands text doc (joins op) cand (b ∷ a ∷ os) =
    option_and_then (λ us. option_map (λ vs. tags (joined_tags op 0 (number_of cand) us vs) ∷ os) (as_tags (number_of cand) b)) (as_tags (number_of cand) a)
on_operands text doc _ cand os = None

-- the locations on top become the candidates of a filter
abbrev pub opened : Document → Bool → Bool → List Found → List Operand → Option State
opened doc leaves deep (cand ∷ fs) (of_path f ∷ os) =
    Some (record { frames = record f { pairs = entered doc leaves deep (list_count_for_candidates f.shared (number_of cand)) f.pairs } ∷ cand ∷ fs; operands = os })
opened doc leaves deep _ _ = None

-- the candidates at which the condition on top holds go on
abbrev pub filter_closed : List Found → List Operand → Option State
filter_closed (cand ∷ fs) (o ∷ os) = option_map (λ ts. record { frames = fs; operands = of_path (record cand { pairs = kept_by_number 0 ts cand.pairs }) ∷ os }) (as_tags (number_of cand) o)
filter_closed _ _ = None

-- the innermost candidates are put aside, and each location of them is there once
abbrev pub put_aside : List Found → List Operand → Option State
put_aside [] os = None
put_aside (cand ∷ fs) os = Some (record { frames = record { shared = true; pairs = tagged 0 (once_in_order (places cand.pairs)) } ∷ fs; operands = of_path cand ∷ os })

abbrev pub inside : List ℕ → Document → Instruction → List Found → List Operand → Option State
inside text doc i [] os = None
inside text doc i (cand ∷ fs) os = option_map (λ more. record { frames = cand ∷ fs; operands = more }) (on_operands text doc i cand os)

-- one instruction; none where an operand is missing or of the wrong kind
abbrev pub one : List ℕ → Document → Instruction → State → Option State
one text doc (enter leaves deep) s = opened doc leaves deep s.frames s.operands
one text doc leave s = filter_closed s.frames s.operands
one text doc distinct s = put_aside s.frames s.operands
one text doc i s = inside text doc i s.frames s.operands

abbrev pub run_all : List ℕ → Document → List Instruction → State → Option State
run_all text doc [] s = Some s
run_all text doc (i ∷ is) s = option_and_then (run_all text doc is) (one text doc i s)

-- at first the root is the one candidate
abbrev pub root_shared_by_candidates : Found
root_shared_by_candidates = record { shared = true; pairs = (0, []) ∷ [] }

abbrev pub at_first : State
at_first = record { frames = root_shared_by_candidates ∷ []; operands = [] }

-- the state that answers these locations
abbrev pub answering : List Location → State
answering ls = record { frames = root_shared_by_candidates ∷ []; operands = of_path (record { shared = true; pairs = tagged 0 ls }) ∷ [] }
