-- Names behind dots are a path that selects just where they lead.
use Rattle.std.proofs.Common.{◌≡◌, ◌≤◌, ◌+◌, ℕ, suc, true, false, not, ◌&&◌, List, [], ◌∷◌, ◌++◌, length, drop, map, Some, None, refl, sym, subst, ap, ◌∙◌, arith, chars, IsUtf8, IsAscii, encode_utf8_all}
use Rattle.std.specs.Char.{is_ascii}
use Rattle.std.specs.List.{list_all}
use Rattle.std.proofs.lemmas.Bool.{and_from, and_parts, ltb-true, not-true}
use Rattle.std.proofs.lemmas.List.Folds.{list_all-append}
use Rattle.std.proofs.lemmas.Str.{encodes-IsAscii, chars-IsAscii, encodes-append, IsUtf8-from_ascii}
use Rattle.std.proofs.lemmas.Str.Ascii.{IsAscii-nil, IsAscii-cons}
use lib.Utf8.{encode, encodes}
use Rattle.jsonpath_nodes.specs.document.Document.{Document}
use Rattle.jsonpath_paths.specs.Grammar as g
use Rattle.jsonpath_paths.specs.Grammar.{Lexemes, levels}
use Rattle.jsonpath_paths.specs.token.Kinds.{IsFirst, HasNone, all_pass, begins_none, ends_word}
use Rattle.jsonpath_paths.specs.token.Reading.{first}
use Rattle.jsonpath_paths.specs.Spelling.{Spells}
use Rattle.jsonpath_paths.specs.text.Spans.{slice_at}
use Rattle.jsonpath_paths.specs.text.Characters.{byte_len, name_of, is_quote, goes_on}
use Rattle.jsonpath_paths.specs.token.Tokens.{TokensAt, no_token, lexeme}
use Rattle.jsonpath_paths.specs.tree.Tree.{Path, path, PathSteps, no_steps, step_then, plain}
use Rattle.jsonpath_paths.specs.declared.text.str_reader.StrRange.{StrRange}
use Rattle.jsonpath_paths.specs.declared.token.tokens.Kind.{Kind}
use Rattle.jsonpath_paths.specs.declared.token.tokens.Kind.TheVariants as kinds
use Rattle.jsonpath_paths.specs.declared.token.tokens.ParseToken.TheVariants as t
use Rattle.jsonpath_nodes.specs.place.Location.{name}
use Rattle.jsonpath_nodes.specs.step.Steps.{named}
use Rattle.jsonpath_select.specs.SelectionLaws.{is_dot_name, behind_dots, dotted, where_it_is, SelectsNames}
use Rattle.jsonpath_select.specs.Meaning.{sel}
use Rattle.jsonpath_select.specs.Parts.{plain_of}
use Rattle.jsonpath_select.proofs.answer.LocationTextLemmas.{token_is, ascii_scalars, Leads, leads_nowhere, leads_on, follow_here, a_mark}
use Rattle.jsonpath_select.proofs.answer.SliceLemmas.{slice_is}

-- ---- ASCII texts

ascii : (bs : List ℕ) → list_all is_ascii bs ≡ true → IsAscii bs
ascii [] h = IsAscii-nil
ascii (c ∷ cs) h = let both = and_parts (is_ascii c) (list_all is_ascii cs) h in IsAscii-cons c cs (ltb-true c 128 both.0) (ascii cs both.1)

ascii_same : (bs : List ℕ) → list_all is_ascii bs ≡ true → encodes bs ≡ bs
ascii_same bs h = encodes-IsAscii bs (ascii bs h)

-- ---- names behind dots

module _ (c : ℕ) (cs : List ℕ) (h : is_dot_name (c ∷ cs) ≡ true) where
  name_ascii : list_all is_ascii (c ∷ cs) ≡ true
  name_ascii = (and_parts (list_all is_ascii (c ∷ cs)) (not (begins_none c) && all_pass goes_on cs) h).0

  name_word : (not (begins_none c) && all_pass goes_on cs) ≡ true
  name_word = (and_parts (list_all is_ascii (c ∷ cs)) (not (begins_none c) && all_pass goes_on cs) h).1

  name_begins : begins_none c ≡ false
  name_begins = not-true (begins_none c) (and_parts (not (begins_none c)) (all_pass goes_on cs) name_word).0

  name_goes_on : all_pass goes_on cs ≡ true
  name_goes_on = (and_parts (not (begins_none c)) (all_pass goes_on cs) name_word).1

  no_quote : is_quote c ≡ false
  no_quote = grind (arith, name_begins)

  -- a word means itself
  name_itself : name_of (c ∷ cs) ≡ c ∷ cs
  name_itself = rw no_quote refl

dots_ascii : (ks : List (List ℕ)) → list_all is_dot_name ks ≡ true → list_all is_ascii (behind_dots ks) ≡ true
dots_ascii [] h = refl
dots_ascii ([] ∷ ks) h = cc
dots_ascii ((c ∷ cs) ∷ ks) h =
    let both = and_parts (is_dot_name (c ∷ cs)) (list_all is_dot_name ks) h in
    list_all-append is_ascii (c ∷ cs) (behind_dots ks) ∙ and_from (list_all is_ascii (c ∷ cs)) (list_all is_ascii (behind_dots ks)) (name_ascii c cs both.0) (dots_ascii ks both.1)

dots_end : (ks : List (List ℕ)) → ends_word (behind_dots ks) ≡ true
dots_end [] = refl
dots_end (k ∷ ks) = refl

-- ---- tokens and tree

after_dot : ℕ → ℕ
after_dot i = i + byte_len (46 ∷ [])

lexemes_of : ℕ → List (List ℕ) → Lexemes
lexemes_of i [] = []
lexemes_of i (k ∷ ks) = lexeme kinds.Dot i (46 ∷ []) ∷ lexeme kinds.Key (after_dot i) k ∷ lexemes_of (after_dot i + byte_len k) ks

span_of_name : ℕ → List ℕ → StrRange
span_of_name i k = record { pos = after_dot i; offset = byte_len k }

tree_of : ℕ → List (List ℕ) → PathSteps
tree_of i [] = no_steps
tree_of i (k ∷ ks) = step_then false false (plain (t.Key (span_of_name i k))) (tree_of (after_dot i + byte_len k) ks)

-- a dot alone is a token, and so is the end of the text none
dot_first : (rest : List ℕ) → first (46 ∷ rest) ≡ Some (kinds.Dot, 1)
unfolding first
dot_first rest = refl

end_first : first [] ≡ None
unfolding first
end_first = refl

Longest : Type 0
Longest = (cs : List ℕ) (kind : Kind) (n : ℕ) → first cs ≡ Some (kind, n) → IsFirst cs kind n

NoFirst : Type 0
NoFirst = (cs : List ℕ) → first cs ≡ None → HasNone cs

Words : Type 0
Words = (c : ℕ) (cs rest : List ℕ) → begins_none c ≡ false → all_pass goes_on cs ≡ true → ends_word rest ≡ true → IsFirst (c ∷ cs ++ rest) kinds.Key (suc (length cs))

tokens_of : Longest → NoFirst → Words → (i : ℕ) (ks : List (List ℕ)) → list_all is_dot_name ks ≡ true → TokensAt i (behind_dots ks) (lexemes_of i ks) []
unfolding lexemes_of Longest NoFirst Words after_dot
tokens_of longest none words i [] h = no_token (none [] end_first)
tokens_of longest none words i ([] ∷ ks) h = cc
tokens_of longest none words i ((c ∷ cs) ∷ ks) h =
    let both = and_parts (is_dot_name (c ∷ cs)) (list_all is_dot_name ks) h in
    let rest : List ℕ = behind_dots ks in
    let here : IsFirst ((c ∷ cs) ++ rest) kinds.Key (length (c ∷ cs)) = words c cs rest (name_begins c cs both.0) (name_goes_on c cs both.0) (dots_end ks) in
    token_is i (46 ∷ []) ((c ∷ cs) ++ rest) [] kinds.Dot _ (longest (46 ∷ ((c ∷ cs) ++ rest)) kinds.Dot 1 (dot_first ((c ∷ cs) ++ rest)))
    (token_is (after_dot i) (c ∷ cs) rest [] kinds.Key _ here (tokens_of longest none words (after_dot i + byte_len (c ∷ cs)) ks both.1))

module _ (text : List ℕ) where
  -- from this byte on the text is this
  abbrev Here : ℕ → List ℕ → Type 0
  Here i cs = (i ≤ length text) × (drop i text ≡ cs)

  name_here : (i c : ℕ) (cs : List ℕ) (ks : List (List ℕ)) → is_dot_name (c ∷ cs) ≡ true → list_all is_dot_name ks ≡ true → Here i (behind_dots ((c ∷ cs) ∷ ks))
      → (chars (slice_at text (span_of_name i (c ∷ cs))) ≡ c ∷ cs) × Here (after_dot i + byte_len (c ∷ cs)) (behind_dots ks)
  unfolding span_of_name after_dot encode
  name_here i c cs ks h hs here =
      let name : List ℕ = c ∷ cs in
      let rest : List ℕ = behind_dots ks in
      let name_ok : list_all is_ascii name ≡ true = name_ascii c cs h in
      let rest_ok : list_all is_ascii rest ≡ true = dots_ascii ks hs in
      let both_ok : list_all is_ascii (name ++ rest) ≡ true = list_all-append is_ascii name rest ∙ and_from (list_all is_ascii name) (list_all is_ascii rest) name_ok rest_ok in
      let utf8 : (j : ℕ) (xs : List ℕ) → list_all is_ascii xs ≡ true → drop j text ≡ xs → IsUtf8 (drop j text) = λ j xs ok is. subst IsUtf8 (sym is) (IsUtf8-from_ascii xs (ascii xs ok)) in
      let one = slice_is text i (46 ∷ []) (name ++ rest) here.0 refl (ascii_scalars (name ++ rest) (ascii (name ++ rest) both_ok)) (utf8 i (46 ∷ (name ++ rest)) both_ok here.1) (here.1 ∙ ap (λ xs. 46 ∷ xs) (sym (ascii_same (name ++ rest) both_ok))) in
      let later : drop (i + byte_len (46 ∷ [])) text ≡ name ++ rest = one.1 ∙ ascii_same (name ++ rest) both_ok in
      let two = slice_is text (i + byte_len (46 ∷ [])) name rest one.2 (ascii_scalars name (ascii name name_ok)) (ascii_scalars rest (ascii rest rest_ok)) (utf8 (i + byte_len (46 ∷ [])) (name ++ rest) both_ok later) (one.1 ∙ encodes-append name rest) in
      (two.0, (two.2, two.1 ∙ ascii_same rest rest_ok))

  plain_here : (i c : ℕ) (cs : List ℕ) → is_dot_name (c ∷ cs) ≡ true → chars (slice_at text (span_of_name i (c ∷ cs))) ≡ c ∷ cs → plain_of text (t.Key (span_of_name i (c ∷ cs))) ≡ named (c ∷ cs)
  plain_here i c cs h is =
      ap (λ xs. named (encode_utf8_all (name_of xs))) is ∙ ap (λ xs. named (encode_utf8_all xs)) (name_itself c cs h) ∙ ap named (ascii_same (c ∷ cs) (name_ascii c cs h))

  means : (i : ℕ) (ks : List (List ℕ)) → list_all is_dot_name ks ≡ true → Here i (behind_dots ks) → Leads text (tree_of i ks) (map name ks)
  unfolding tree_of
  means i [] h here = leads_nowhere
  means i ([] ∷ ks) h here = cc h
  means i ((c ∷ cs) ∷ ks) h here =
      let both = and_parts (is_dot_name (c ∷ cs)) (list_all is_dot_name ks) h in
      let n = name_here i c cs ks both.0 both.1 here in
      leads_on (plain_here i c cs both.0 n.0) (means (after_dot i + byte_len (c ∷ cs)) ks both.1 n.1)

  spelled_of : (n i : ℕ) (ks : List (List ℕ)) → g.SpellsPart text (g.steps n (tree_of i ks)) (lexemes_of i ks) []
  unfolding tree_of lexemes_of span_of_name
  spelled_of n i [] = g.by g.no_steps g.end
  spelled_of n i (k ∷ ks) =
      let name = g.by g.dot_name (g.next (g.one_token refl) g.end) in
      g.by g.step_then (g.next (g.by g.dot (g.next (a_mark text) (g.next name g.end))) (g.next (spelled_of n (after_dot i + byte_len k) ks) g.end))

-- ---- the whole

dollar_first : (ks : List (List ℕ)) → first (36 ∷ behind_dots ks) ≡ Some (kinds.Absolute, 1)
unfolding first
dollar_first [] = refl
dollar_first (k ∷ ks) = refl

root_end : ℕ
root_end = 0 + byte_len (36 ∷ [])

whole_tree : List (List ℕ) → Path
whole_tree ks = path true (tree_of root_end ks)

module _ (ks : List (List ℕ)) (h : list_all is_dot_name ks ≡ true) where
  spells_names : Longest → NoFirst → Words → Spells (dotted ks) (whole_tree ks)
  unfolding whole_tree root_end Longest
  spells_names longest none words = record {
    tokens = lexeme kinds.Absolute 0 (36 ∷ []) ∷ lexemes_of root_end ks;
    read = subst (λ cs. TokensAt 0 cs (lexeme kinds.Absolute 0 (36 ∷ []) ∷ lexemes_of root_end ks) []) (sym (chars-IsAscii (dotted ks) (ascii (dotted ks) (dots_ascii ks h))))
        (token_is 0 (36 ∷ []) (behind_dots ks) [] kinds.Absolute (lexemes_of root_end ks) (longest (dotted ks) kinds.Absolute 1 (dollar_first ks)) (tokens_of longest none words root_end ks h));
    spelled = g.by g.from_root (g.next (a_mark (dotted ks)) (g.next (spelled_of (dotted ks) levels root_end ks) (g.next (g.by g.no_blanks g.end) g.end)));
  }

  behind_root : Here (dotted ks) root_end (behind_dots ks)
  unfolding root_end
  behind_root = (omega arith, refl)

  selects_where : (doc : Document) → where_it_is doc (map name ks) ≡ sel (dotted ks) doc (whole_tree ks)
  unfolding whole_tree
  selects_where doc = sym (follow_here (dotted ks) doc (tree_of root_end ks) (map name ks) [] doc refl (means (dotted ks) root_end ks h behind_root))

pub dotted_names_select_one_location : ((cs : List ℕ) (kind : Kind) (n : ℕ) → first cs ≡ Some (kind, n) → IsFirst cs kind n) → ((cs : List ℕ) → first cs ≡ None → HasNone cs)
    → ((c : ℕ) (cs rest : List ℕ) → begins_none c ≡ false → all_pass goes_on cs ≡ true → ends_word rest ≡ true → IsFirst (c ∷ cs ++ rest) kinds.Key (suc (length cs))) → SelectsNames
unfolding Longest NoFirst Words
dotted_names_select_one_location longest none words doc ks h = record { path = whole_tree ks; spelled = spells_names ks h longest none words; holds = selects_where ks h doc }
