-- How the code holds the stack of entries, whose top is the last of a vector, and which tokens are words or quoted texts.
use Rattle.std.specs.Prelude.{◌≡◌, Bool, true, false, List, map, reverse, Option, Some, None}
use Rattle.jsonpath_paths.specs.declared.text.str_reader.StrRange.{StrRange}
use Rattle.jsonpath_paths.specs.declared.token.tokens.Token.{Token}
use Rattle.jsonpath_paths.specs.declared.token.tokens.Token.TheVariants.{Key, DoubleQuoted, SingleQuoted}
use Rattle.jsonpath_select.specs.plan.Fits as fit
use Rattle.jsonpath_select.specs.declared.compile.token_list_fit.Entry.{Entry}
use Rattle.jsonpath_select.specs.declared.compile.token_list_fit.Entry.TheVariants.{Ready, Dotted, Opened, StepOrLiteral, Logical}

abbrev pub entry_of : Entry → fit.Entry
entry_of (Ready absolute) = fit.ready absolute
entry_of (Dotted absolute leaves) = fit.dotted absolute leaves
entry_of (Opened absolute leaves) = fit.opened absolute leaves
entry_of (StepOrLiteral alone term) = fit.a_word alone term
entry_of Logical = fit.condition

abbrev pub entries_of : List Entry → List fit.Entry
entries_of es = map entry_of (reverse es)

-- the answer true comes with the new stack, false where there is none
abbrev pub Took : Bool → List Entry → Option (List fit.Entry) → Type 0
Took true es o = o ≡ Some (entries_of es)
Took false es o = o ≡ None

-- where a word or a quoted text stands
abbrev pub name_span : Token → Option StrRange
name_span (Key s) = Some s
name_span (DoubleQuoted s) = Some s
name_span (SingleQuoted s) = Some s
name_span _ = None
