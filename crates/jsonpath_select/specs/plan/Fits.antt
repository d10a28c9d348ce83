-- Whether a list of tokens is that of a path: one pass with a stack of entries.
use Rattle.std.specs.Prelude.{Bool, true, false, not, ◌&&◌, List, [], ◌∷◌, length, nat_le, if◌then◌else◌, is_some, Option, Some, None, option_map, option_and_then}
use Rattle.jsonpath_paths.specs.tree.Tree.{is_comparison}
use Rattle.jsonpath_paths.specs.tree.WellFormed.{is_dot_word, is_literal}
use Rattle.jsonpath_paths.specs.declared.token.tokens.FilterToken.{FilterToken}
use Rattle.jsonpath_paths.specs.declared.token.tokens.ParseToken.{ParseToken}
use Rattle.jsonpath_paths.specs.declared.token.tokens.ParseToken.TheVariants as t
use Rattle.jsonpath_select.specs.Parts.{index_in}

pub data Entry : Type 0 where
  -- a path that is complete: is it absolute
  ready : Bool → Entry
  -- a path with one dot or two behind it
  dotted : Bool → Bool → Entry
  -- a path with a bracket behind it, and two dots before the bracket or none
  opened : Bool → Bool → Entry
  -- a word: may it stand alone in brackets, may it be a term
  a_word : Bool → Bool → Entry
  condition : Entry

-- what may stand in brackets, but for a filter
abbrev pub may_stand_alone_in_brackets : ParseToken → Bool
may_stand_alone_in_brackets t.All = true
may_stand_alone_in_brackets (t.Key s) = true
may_stand_alone_in_brackets (t.Keys ss) = nat_le 2 (length ss)
may_stand_alone_in_brackets (t.Union ns) = nat_le 2 (length ns)
may_stand_alone_in_brackets (t.Range from to step) = true
may_stand_alone_in_brackets (t.Number d) = is_some (index_in d)
may_stand_alone_in_brackets _ = false

abbrev pub may_stand_in_brackets : Entry → Bool
may_stand_in_brackets (ready absolute) = not absolute
may_stand_in_brackets (dotted absolute leaves) = false
may_stand_in_brackets (opened absolute leaves) = false
may_stand_in_brackets (a_word alone term) = alone
may_stand_in_brackets condition = true

abbrev pub is_term_entry : Entry → Bool
is_term_entry (ready absolute) = true
is_term_entry (dotted absolute leaves) = false
is_term_entry (opened absolute leaves) = false
is_term_entry (a_word alone term) = term
is_term_entry condition = false

abbrev pub is_condition_entry : Entry → Bool
is_condition_entry (ready absolute) = not absolute
is_condition_entry (dotted absolute leaves) = false
is_condition_entry (opened absolute leaves) = false
is_condition_entry (a_word alone term) = false
is_condition_entry condition = true

abbrev pub takes_dots : Bool → Entry → Option Entry
takes_dots leaves (ready absolute) = Some (dotted absolute leaves)
takes_dots leaves (dotted absolute b) = None
takes_dots leaves (opened absolute b) = None
takes_dots leaves (a_word alone term) = None
takes_dots leaves condition = None

abbrev pub takes_array : Entry → Option Entry
takes_array (ready absolute) = Some (opened absolute false)
takes_array (dotted absolute true) = Some (opened absolute true)
takes_array (dotted absolute false) = None
takes_array (opened absolute b) = None
takes_array (a_word alone term) = None
takes_array condition = None

abbrev pub takes_end : Entry → Option Entry
takes_end (ready absolute) = None
takes_end (dotted absolute b) = None
takes_end (opened absolute b) = Some (ready absolute)
takes_end (a_word alone term) = None
takes_end condition = None

-- on the kind on top
abbrev pub on_top : (Entry → Option Entry) → List Entry → Option (List Entry)
on_top f [] = None
on_top f (k ∷ ks) = option_map (λ x. x ∷ ks) (f k)

abbrev pub pushed : ParseToken → List Entry → List Entry
pushed token ks = a_word (may_stand_alone_in_brackets token) (is_literal token) ∷ ks

-- a word is a step behind dots, and else stands by itself
abbrev pub worded : ParseToken → List Entry → Option (List Entry)
worded token [] = Some (pushed token [])
worded token (dotted absolute leaves ∷ ks) = if is_dot_word token then Some (ready absolute ∷ ks) else None
worded token (k ∷ ks) = Some (pushed token (k ∷ ks))

-- two terms may be compared, and two conditions joined
abbrev pub may_join : FilterToken → Entry → Entry → Bool
may_join op x y = if is_comparison op then is_term_entry x && is_term_entry y else is_condition_entry x && is_condition_entry y

abbrev pub operated : FilterToken → List Entry → Option (List Entry)
operated op [] = None
operated op (y ∷ []) = None
operated op (y ∷ x ∷ es) = if may_join op x y then Some (condition ∷ es) else None

abbrev pub ended : List Entry → Option (List Entry)
ended [] = None
ended (x ∷ ks) = if may_stand_in_brackets x then on_top takes_end ks else None

-- one token more; none where it cannot follow
abbrev pub fits : ParseToken → List Entry → Option (List Entry)
fits t.Absolute ks = Some (ready true ∷ ks)
fits t.Relative ks = Some (ready false ∷ ks)
fits t.In ks = on_top (takes_dots false) ks
fits t.Leaves ks = on_top (takes_dots true) ks
fits t.Array ks = on_top takes_array ks
fits t.ArrayEof ks = ended ks
fits (t.Filter op) ks = operated op ks
fits t.Eof ks = None
fits token ks = worded token ks

abbrev pub fits_from : List ParseToken → List Entry → Option (List Entry)
fits_from [] ks = Some ks
fits_from (token ∷ ts) ks = option_and_then (fits_from ts) (fits token ks)

abbrev pub is_one_path_from_root : Option (List Entry) → Bool
is_one_path_from_root None = false
is_one_path_from_root (Some []) = false
is_one_path_from_root (Some (ready absolute ∷ [])) = absolute
is_one_path_from_root (Some (ready absolute ∷ k ∷ ks)) = false
is_one_path_from_root (Some (k ∷ ks)) = false

-- one path's tokens
abbrev pub is_token_list_of_path : List ParseToken → Bool
is_token_list_of_path ts = is_one_path_from_root (fits_from ts [])
