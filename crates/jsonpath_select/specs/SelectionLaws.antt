-- Laws of selections.
use Rattle.std.specs.Prelude.{◌≡◌, ⊤, ◌⊎◌, ℕ, ◌<◌, ◌^◌, Bool, true, false, not, ◌&&◌, IsTrue, List, [], ◌∷◌, ◌++◌, map, flat_map, codes, is_some, option_to_list, if◌then◌else◌, Some}
use Rattle.std.specs.Str.{IsUtf8}
use Rattle.std.specs.Char.{is_ascii}
use Rattle.std.specs.List.{IsDistinct, list_all}
use Rattle.jsonpath_nodes.specs.document.Document.{Document}
use Rattle.jsonpath_paths.specs.tree.Joined.{filter_text, joined_text}
use Rattle.jsonpath_paths.specs.token.Kinds.{all_pass, begins_none}
use Rattle.jsonpath_paths.specs.Spelling.{Spells, IsInGrammar}
use Rattle.jsonpath_paths.specs.text.Characters.{goes_on}
use Rattle.jsonpath_paths.specs.tree.Tree.{Path, path, PathSteps, no_steps, step_then, Inner, plain, filter, Condition, lone, compare, join, Term, at_path, literal, is_comparison}
use Rattle.jsonpath_paths.specs.declared.token.tokens.FilterToken.{FilterToken}
use Rattle.jsonpath_paths.specs.declared.token.tokens.ParseToken.{ParseToken}
use Rattle.jsonpath_paths.specs.declared.token.tokens.ParseToken.TheVariants.{Keys, Union}
use Rattle.jsonpath_nodes.specs.place.Location.{Step, name, index, Location, at, is_same}
use Rattle.jsonpath_nodes.specs.place.LocationText.{location_text}
use Rattle.jsonpath_nodes.specs.place.Order.{IsOrderedDocument}
use Rattle.jsonpath_nodes.specs.place.SpotPlace.{sight_of}
use Rattle.jsonpath_nodes.specs.place.SpotPlace.{Spot}
use Rattle.jsonpath_select.specs.Parts.{plain_of, literals}
use Rattle.jsonpath_select.specs.JsonPathErrors.{IsPathRefused}
use Rattle.jsonpath_select.specs.declared.error.JsonPathError.{JsonPathError}
use Rattle.jsonpath_select.specs.declared.error.JsonPathError.TheVariants.{OutOfMemory}
use Rattle.jsonpath_select.specs.Meaning.{sel, answer, SelectsAt, Selects, SelectsSpots}

-- ---- one answer

-- a path text selects one list of locations of a document, and one list of values
abbrev pub OneListOfLocations : Type 0
OneListOfLocations = (text : List ℕ) (doc : Document) (ls ms : List Location) → SelectsAt text doc ls → SelectsAt text doc ms → ls ≡ ms

abbrev pub OneListOfValues : Type 0
OneListOfValues = (text : List ℕ) (doc : Document) (xs ys : List Document) → Selects text doc xs → Selects text doc ys → xs ≡ ys

-- two answers of spots are at the same locations and have the same values
abbrev pub OneListOfSights : Type 0
OneListOfSights = (text : List ℕ) (doc : Document) (xs ys : List Spot) → SelectsSpots text doc xs → SelectsSpots text doc ys → map sight_of xs ≡ map sight_of ys

-- ---- each location once

-- a step that can lead twice to one child: a union, or a list of names
abbrev pub may_repeat : ParseToken → Bool
may_repeat (Keys names) = true
may_repeat (Union indexes) = true
may_repeat _ = false

abbrev pub is_single_inner : Inner → Bool
is_single_inner (plain token) = not (may_repeat token)
is_single_inner (filter f) = true

-- no `..`, no union and no list of names; what stands in filters does not count
abbrev pub has_single_steps : PathSteps → Bool
has_single_steps no_steps = true
has_single_steps (step_then leaves bracket inner rest) = not leaves && is_single_inner inner && has_single_steps rest

abbrev pub is_single : Path → Bool
is_single (path absolute steps) = has_single_steps steps

-- such a path selects no location of a document twice
abbrev pub SelectsOnce : Type 0
SelectsOnce = (text : List ℕ) (doc : Document) (p : Path) → IsOrderedDocument doc → IsTrue (is_single p) → IsDistinct is_same (sel text doc p)

-- ---- both orders of `&&` and `||`

-- The two paths, each of a text of its own, have the same parts in the same places, but that the two sides of any `&&` and
-- `||` may have changed places. Brackets and the spelling of names, indexes and literals do not count.
abbrev mutual
  pub IsReordered : List ℕ → List ℕ → Path → Path → Type 0
  IsReordered s t (path absolute ss) (path absolute' ss') = (absolute ≡ absolute') × AreReordered s t ss ss'

  pub AreReordered : List ℕ → List ℕ → PathSteps → PathSteps → Type 0
  AreReordered s t no_steps no_steps = ⊤
  AreReordered s t no_steps (step_then leaves bracket inner rest) = ⊥
  AreReordered s t (step_then leaves bracket inner rest) no_steps = ⊥
  AreReordered s t (step_then leaves bracket inner rest) (step_then leaves' bracket' inner' rest') =
      (leaves ≡ leaves') × IsReorderedInner s t inner inner' × AreReordered s t rest rest'

  pub IsReorderedInner : List ℕ → List ℕ → Inner → Inner → Type 0
  IsReorderedInner s t (plain token) (plain token') = plain_of s token ≡ plain_of t token'
  IsReorderedInner s t (plain token) (filter f') = ⊥
  IsReorderedInner s t (filter f) (plain token') = ⊥
  IsReorderedInner s t (filter f) (filter f') = IsReorderedCondition s t f f'

  pub IsReorderedCondition : List ℕ → List ℕ → Condition → Condition → Type 0
  IsReorderedCondition s t (lone p) (lone p') = IsReordered s t p p'
  IsReorderedCondition s t (compare a op b) (compare a' op' b') = (op ≡ op') × IsReorderedTerm s t a a' × IsReorderedTerm s t b b'
  IsReorderedCondition s t (join op a b) (join op' a' b') =
      (op ≡ op')
      × ((IsReorderedCondition s t a a' × IsReorderedCondition s t b b') ⊎ (IsReorderedCondition s t a b' × IsReorderedCondition s t b a'))
  IsReorderedCondition s t _ _ = ⊥

  pub IsReorderedTerm : List ℕ → List ℕ → Term → Term → Type 0
  IsReorderedTerm s t (at_path p) (at_path p') = IsReordered s t p p'
  IsReorderedTerm s t (literal token) (literal token') = literals s token ≡ literals t token'
  IsReorderedTerm s t _ _ = ⊥

-- they select the same list of locations in every document
abbrev pub OrderIsFree : Type 0
OrderIsFree = (s t : List ℕ) (doc : Document) (p q : Path) → IsReordered s t p q → sel s doc p ≡ sel t doc q

-- So do `$[?((a) && (b))]` and `$[?((b) && (a))]`, and those of `||`, where `$[?(a)]` and `$[?(b)]` are paths, too.
abbrev pub LocationsInBothOrders : Type 0
LocationsInBothOrders = (o : FilterToken) (a b : List ℕ) (doc : Document) (ls ms : List Location) → is_comparison o ≡ false → IsUtf8 a → IsUtf8 b
    → IsInGrammar (filter_text a) → IsInGrammar (filter_text b) → SelectsAt (joined_text o a b) doc ls → SelectsAt (joined_text o b a) doc ms → ls ≡ ms

abbrev pub ValuesInBothOrders : Type 0
ValuesInBothOrders = (o : FilterToken) (a b : List ℕ) (doc : Document) (xs ys : List Document) → is_comparison o ≡ false → IsUtf8 a → IsUtf8 b
    → IsInGrammar (filter_text a) → IsInGrammar (filter_text b) → Selects (joined_text o a b) doc xs → Selects (joined_text o b a) doc ys → xs ≡ ys

-- ---- places

-- a step that a path can spell: a name is text, and an index is below 2^63
abbrev pub CanBeSpelled : Step → Type 0
CanBeSpelled (name k) = IsUtf8 k
CanBeSpelled (index i) = i < 2 ^ 63

abbrev pub AllCanBeSpelled : Location → Type 0
AllCanBeSpelled [] = ⊤
AllCanBeSpelled (s ∷ l) = CanBeSpelled s × AllCanBeSpelled l

-- the location, where something stands there
abbrev pub where_it_is : Document → Location → List Location
where_it_is doc l = if is_some (at doc l) then l ∷ [] else []

-- the text of a location is a path, and it selects just this location
abbrev pub SelectsItself : Type 0
SelectsItself = (doc : Document) (l : Location) → AllCanBeSpelled l → SelectsAt (location_text l) doc (where_it_is doc l)

-- ---- names behind dots

-- a name that can stand behind a dot as it is: an ASCII word without a dollar sign in front
abbrev pub is_dot_name : List ℕ → Bool
is_dot_name [] = false
is_dot_name (c ∷ cs) = list_all is_ascii (c ∷ cs) && (not (begins_none c) && all_pass goes_on cs)

-- these names behind dots, as `.store.book`
abbrev pub behind_dots : List (List ℕ) → List ℕ
behind_dots ks = flat_map (λ k. codes "." ++ k) ks

-- such a path from the root, as `$.store.book`
abbrev pub dotted : List (List ℕ) → List ℕ
dotted ks = codes "$" ++ behind_dots ks

-- it is a path, and it selects just the location where the names lead
abbrev pub SelectsNames : Type 0
SelectsNames = (doc : Document) (ks : List (List ℕ)) → list_all is_dot_name ks ≡ true → SelectsAt (dotted ks) doc (where_it_is doc (map name ks))

-- ---- values

-- a text that selects one location, where something stands there, selects the value there
abbrev pub AnswersPlace : Type 0
AnswersPlace = (text : List ℕ) (doc : Document) (l : Location) (values : List Document) → SelectsAt text doc (where_it_is doc l) → Selects text doc values → values ≡ option_to_list (at doc l)

-- a text selects by any tree that it spells
abbrev pub SelectsByTree : Type 0
SelectsByTree = (text : List ℕ) (doc : Document) (p : Path) → Spells text p
    → ((ls : List Location) → SelectsAt text doc ls → ls ≡ sel text doc p) × ((values : List Document) → Selects text doc values → values ≡ answer text doc p)

-- a text of the grammar is refused for want of memory alone
abbrev pub NeverRefused : Type 0
NeverRefused = (text : List ℕ) (error : JsonPathError) → IsInGrammar text → IsPathRefused text error → error ≡ OutOfMemory

-- each location that a path selects in a document holds a value, so there are as many values as locations
abbrev pub AnswersEach : Type 0
AnswersEach = (text : List ℕ) (doc : Document) (p : Path) → IsOrderedDocument doc → map (λ d. Some d) (answer text doc p) ≡ map (at doc) (sel text doc p)
