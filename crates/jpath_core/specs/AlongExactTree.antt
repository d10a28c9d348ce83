-- Simple paths that are answered on the exact tree itself: where values stand in it, and what conditions see there. Its image is the data that `serde_json` reads.
use Rattle.std.specs.Prelude.{◌≡◌, ℕ, ◌+◌, Bool, true, false, ◌&&◌, ◌||◌, not, List, [], ◌∷◌, ◌++◌, map, flat_map, filter, length, is_some, if◌then◌else◌, Option, Some, None, option_map, option_and_then, option_to_list}
use Rattle.std.specs.Borrow.{Bor}
use Rattle.json.specs.Json.{Json, null, boolean, number, string, array, object, Items, no_items, item}
use Rattle.json.specs.Find.{get}
use Rattle.serde_json.specs.Data.{Num, Data}
use Rattle.serde_json.specs.Read.{number_of}
use Rattle.jsonpath_paths.specs.tree.Tree.{Path, path, PathSteps, no_steps, step_then, Inner, plain, filter as with_filter, Condition, lone, compare, join, Term, at_path, literal}
use Rattle.jsonpath_paths.specs.tree.View.{condition_of}
use Rattle.jsonpath_paths.specs.declared.text.str_reader.StrRange.{StrRange}
use Rattle.jsonpath_paths.specs.declared.tree.parser_node.Condition.{Condition as ConditionNode}
use Rattle.jsonpath_paths.specs.declared.token.tokens.ParseToken.{ParseToken}
use Rattle.jsonpath_paths.specs.declared.token.tokens.ParseToken.TheVariants.{Key, All}
use Rattle.jsonpath_nodes.specs.document.OfData.{document_of}
use Rattle.jsonpath_nodes.specs.place.Location.{Location}
use Rattle.jsonpath_nodes.specs.compare.Comparisons.{Seen, null_value, truth, text, unread, list, members, units_of, seen_units}
use Rattle.jsonpath_select.specs.Meaning.{sel}
use Rattle.jsonpath_select.specs.Parts.{name_at, literals, has_pair, joined}
use Rattle.json_trees.specs.ExactAt.{exact_at}
use Rattle.jpath_texts.specs.Lines.{on_line, shown}
use Rattle.jpath_texts.specs.declared.output.match_line.Line.{Line}
use Rattle.jpath_core.specs.declared.exact_tree.exact_evaluator.Lines.{Lines}

-- the values stand in the tree at these locations, in this order
abbrev pub StandIn : Json → List Location → List Json → Type 0
StandIn j ls js = map (λ x. Some x) js ≡ map (exact_at j) ls

-- ---- items

abbrev pub list_of : Items → List Json
list_of no_items = []
list_of (item j js) = j ∷ list_of js

-- the items of an array
abbrev pub items_in : Json → List Json
items_in (array js) = list_of js
items_in _ = []

abbrev pub is_no_object : Json → Bool
is_no_object (object ms) = false
is_no_object _ = true

abbrev pub is_no_array : Json → Bool
is_no_array (array js) = false
is_no_array _ = true

abbrev pub are_no_arrays : Items → Bool
are_no_arrays no_items = true
are_no_arrays (item j js) = is_no_array j && are_no_arrays js

-- an array holds no arrays
abbrev pub is_shallow : Json → Bool
is_shallow (array js) = are_no_arrays js
is_shallow _ = true

-- the items of an array, or the value itself
abbrev pub spread : Json → List Json
spread (array js) = list_of js
spread x = x ∷ []

-- ---- conditions

abbrev pub seen_number : Option Num → Seen
seen_number None = unread
seen_number (Some n) = seen_units (units_of n)

-- what a comparison sees of a value's image
abbrev pub seen_exact : Json → Seen
seen_exact null = null_value
seen_exact (boolean b) = truth b
seen_exact (number s) = seen_number (number_of s)
seen_exact (string s) = text s
seen_exact (array js) = list
seen_exact (object ms) = members

abbrev pub key_of : ParseToken → Option StrRange
key_of (Key s) = Some s
key_of _ = None

abbrev pub last_key : Inner → PathSteps → Option StrRange
last_key (plain token) no_steps = key_of token
last_key (plain token) (step_then leaves bracket inner rest) = None
last_key (with_filter f) rest = None

abbrev pub only_key : PathSteps → Option StrRange
only_key no_steps = None
only_key (step_then true bracket inner rest) = None
only_key (step_then false bracket inner rest) = last_key inner rest

-- where the name stands in a path that is `@` and one name
abbrev pub member_key : Path → Option StrRange
member_key (path true steps) = None
member_key (path false steps) = only_key steps

-- the member that such a path leads to
abbrev pub member_of : List ℕ → Path → Json → Option Json
member_of spelled p j = option_and_then (λ s. get (name_at spelled s) j) (member_key p)

abbrev pub is_member_term : Term → Bool
is_member_term (at_path p) = is_some (member_key p)
is_member_term (literal token) = false

abbrev pub is_simple_term : Term → Bool
is_simple_term (at_path p) = is_some (member_key p)
is_simple_term (literal token) = true

-- conditions on members of the candidate alone
abbrev pub is_simple : Condition → Bool
is_simple (lone p) = is_some (member_key p)
is_simple (compare l op r) = (is_simple_term l && is_simple_term r) && (is_member_term l || is_member_term r)
is_simple (join op a b) = is_simple a && is_simple b

-- a step by one name, by `[*]`, or by a filter on members of the candidate alone
abbrev pub is_straight_inner : Inner → Bool
is_straight_inner (plain (Key s)) = true
is_straight_inner (plain All) = true
is_straight_inner (plain _) = false
is_straight_inner (with_filter f) = is_simple f

abbrev pub are_straight : PathSteps → Bool
are_straight no_steps = true
are_straight (step_then leaves bracket inner rest) = (not leaves && is_straight_inner inner) && are_straight rest

-- a path from the root by such steps, none behind `..`
abbrev pub is_straight : Path → Bool
is_straight (path absolute steps) = absolute && are_straight steps

abbrev pub values_exact : List ℕ → Term → Json → List Seen
values_exact spelled (at_path p) j = map seen_exact (option_to_list (member_of spelled p j))
values_exact spelled (literal token) j = literals spelled token

-- whether such a condition holds at a value
abbrev pub holds_exact : List ℕ → Condition → Json → Bool
holds_exact spelled (lone p) j = is_some (member_of spelled p j)
holds_exact spelled (compare l op r) j = has_pair op (values_exact spelled l j) (values_exact spelled r j)
holds_exact spelled (join op a b) j = joined op (holds_exact spelled a j) (holds_exact spelled b j)

-- ---- from a value on

abbrev pub both : Option (List Json) → Option (List Json) → Option (List Json)
both None more = None
both (Some xs) None = None
both (Some xs) (Some ys) = Some (xs ++ ys)

-- what w gives of each value, one after the other, where it gives something of all
abbrev pub walk_all : (Json → Option (List Json)) → List Json → Option (List Json)
walk_all w [] = Some []
walk_all w (x ∷ xs) = both (w x) (walk_all w xs)

abbrev pub part_by : List ℕ → ParseToken → Json → Option (List Json)
part_by spelled (Key s) x = Some (option_to_list (get (name_at spelled s) x))
part_by spelled All x = if is_no_object x then Some (items_in x) else None
part_by spelled _ x = None

-- what a step selects from a value, where that is told by the tree alone
abbrev pub part : List ℕ → Inner → Json → Option (List Json)
part spelled (plain token) x = part_by spelled token x
part spelled (with_filter f) x = if is_simple f && is_shallow x then Some (filter (holds_exact spelled f) (spread x)) else None

-- what steps select from a value, where that is told by the tree alone
abbrev pub walk : List ℕ → PathSteps → Json → Option (List Json)
walk spelled no_steps x = Some (x ∷ [])
walk spelled (step_then leaves bracket inner rest) x = if leaves then None else option_and_then (walk_all (walk spelled rest)) (part spelled inner x)

-- one step and then the rest
abbrev pub next : List ℕ → PathSteps → Inner → Json → Option (List Json)
next spelled rest inner x = option_and_then (walk_all (walk spelled rest)) (part spelled inner x)

-- the rest from a candidate at which the condition holds
abbrev pub kept_from : List ℕ → PathSteps → Condition → Json → Option (List Json)
kept_from spelled rest f x = if is_no_array x then (if holds_exact spelled f x then walk spelled rest x else Some []) else None

-- the rest from a value, or from a candidate at which a condition holds
abbrev pub rest_from : List ℕ → PathSteps → Option (Bor ConditionNode) → Json → Option (List Json)
rest_from spelled rest None x = walk spelled rest x
rest_from spelled rest (Some kept) x = kept_from spelled rest (condition_of kept.now) x

-- ---- what is written of that

-- the line of a value, without its place
abbrev pub value_line : Line → Json → List ℕ
value_line line j = on_line line (shown line.look j)

abbrev pub value_lines : Option (Bor Line) → List Json → List ℕ
value_lines None js = []
value_lines (Some line) js = flat_map (value_line line.now) js

abbrev pub written : Lines → List ℕ × ℕ
written lines = (lines.bytes.items, lines.count)

abbrev pub and_more : Option (Bor Line) → List ℕ × ℕ → List Json → List ℕ × ℕ
and_more line before js = (before.0 ++ value_lines line js, before.1 + length js)

abbrev pub after : Option (Bor Line) → Lines → Option (List Json) → Option (List ℕ × ℕ)
after line lines found = option_map (and_more line (written lines)) found

-- what the path selects in the image, from the tree, went behind what was there
pub record AddsStraight (spelled : List ℕ) (line : Option (Bor Line)) (exact : Json) (image : Data) (before after : List ℕ) (count : ℕ) (p : Path) : Type 0 where
  pub found : List Json
  pub stand : StandIn exact (sel spelled (document_of image) p) found
  pub written : after ≡ before ++ value_lines line found
  pub counted : count ≡ length (sel spelled (document_of image) p)
