-- Whatever is wanted can be given: each stack has tokens that lead from it to the end of a path.
use Rattle.std.proofs.Common.{◌≡◌, ℕ, Bool, true, false, List, [], ◌∷◌, Option, Some, refl, ◌∙◌, ap, codes, arith}
use Rattle.std.specs.Prelude.{◌++◌, ◌&&◌, is_some}
use Rattle.std.proofs.lemmas.Bool.{and_parts}
use Rattle.jsonpath_paths.specs.declared.token.tokens.Kind.{Kind}
use Rattle.jsonpath_paths.specs.declared.token.tokens.Kind.TheVariants as k
use Rattle.jsonpath_paths.specs.Numbers.{index_of, range_step_of, decimal_of, fraction_of}
use Rattle.jsonpath_paths.specs.plan.Wants.{Want, Sign, dollar, blanks, steps, step, word, after_dot, after_dots, close, inner, plain, indexes_range_or_names, range_or_names, after_first_index, more_indexes, index, range_to, range_by, range_step, after_name, more_names, quoted, open_group, condition, part, candidate_tail, behind_blank, tail, sign, term, literal, fraction, digits, move, moved, feed, run, run_on, may_pass, may_end, passes, if_word}

-- the stack is led to the end of a path by these tokens
pub record Ends (ws : List Want) (ts : List Sign) : Type 0 where
  pub left : List Want
  pub ran : run ws ts ≡ Some left
  pub ended : may_end left ≡ true

-- the tokens that end what is wanted
pub data Ender : Type 0 where
  dollar_sign bracket parenthesis opening name candidate not_equal star naught : Ender

abbrev pub kind_of : Ender → Kind
kind_of dollar_sign = k.Absolute
kind_of bracket = k.CloseArray
kind_of parenthesis = k.CloseParenthesis
kind_of opening = k.OpenParenthesis
kind_of name = k.SingleQuoted
kind_of candidate = k.At
kind_of not_equal = k.NotEqual
kind_of star = k.Asterisk
kind_of naught = k.Key

-- a token of each kind, by its characters, which are bytes
abbrev pub sample : Kind → List ℕ
sample k.Absolute = codes "$"
sample k.Dot = codes "."
sample k.At = codes "@"
sample k.OpenArray = codes "["
sample k.CloseArray = codes "]"
sample k.Asterisk = codes "*"
sample k.Question = codes "?"
sample k.Comma = codes ","
sample k.Split = codes ":"
sample k.OpenParenthesis = codes "("
sample k.CloseParenthesis = codes ")"
sample k.Key = codes "0"
sample k.DoubleQuoted = codes "\"\""
sample k.SingleQuoted = codes "''"
sample k.Equal = codes "=="
sample k.GreaterOrEqual = codes ">="
sample k.Greater = codes ">"
sample k.Little = codes "<"
sample k.LittleOrEqual = codes "<="
sample k.NotEqual = codes "!="
sample k.And = codes "&&"
sample k.Or = codes "||"
sample k.Whitespace = codes " "

abbrev pub samples : List Kind → List Sign
samples [] = []
samples (kind ∷ kinds) = record { kind = kind; word = sample kind } ∷ samples kinds

abbrev pub kinds_of : List Ender → List Kind
kinds_of [] = []
kinds_of (e ∷ es) = kind_of e ∷ kinds_of es

abbrev pub signs_of : List Ender → List Sign
signs_of es = samples (kinds_of es)

-- what ends a want; nothing, where the want may be given up for whatever ends another
abbrev pub ending : Want → List Ender
ending dollar = dollar_sign ∷ []
ending word = star ∷ []
ending (after_dot n) = star ∷ []
ending (after_dots n) = star ∷ []
ending close = bracket ∷ []
ending (inner n) = star ∷ []
ending plain = star ∷ []
ending indexes_range_or_names = name ∷ []
ending range_or_names = name ∷ []
ending index = naught ∷ []
ending range_to = naught ∷ []
ending range_step = naught ∷ []
ending quoted = name ∷ []
ending open_group = opening ∷ []
ending (condition n) = candidate ∷ parenthesis ∷ []
ending (part n) = candidate ∷ parenthesis ∷ []
ending (candidate_tail n) = parenthesis ∷ []
ending (behind_blank n) = parenthesis ∷ []
ending (tail n) = parenthesis ∷ []
ending sign = not_equal ∷ []
ending (term n) = candidate ∷ []
ending literal = name ∷ []
ending digits = naught ∷ []
ending _ = []

-- a want that is ended by nothing
pub data Silent : Want → Type 0 where
  blanks_s : Silent blanks
  steps_s : {n : ℕ} → Silent (steps n)
  first_s : Silent after_first_index
  indexes_s : Silent more_indexes
  by_s : Silent range_by
  name_s : Silent after_name
  names_s : Silent more_names
  fraction_s : Silent fraction

pub passing : {w : Want} → Silent w → may_pass w ≡ true
passing blanks_s = refl
passing _ = refl

-- it is given up for each of them
pub given_up : {w : Want} → Silent w → (e : Ender) → move w (kind_of e) (sample (kind_of e)) ≡ passes
given_up blanks_s bracket = refl
given_up _ bracket = refl
given_up _ _ = refl

pub pass_ends : {w : Want} → Silent w → (ws : List Want) (es : List Ender) → Ends ws (signs_of es) → Ends (w ∷ ws) (signs_of es)
pass_ends {w = w} s ws [] h =
    record { left = w ∷ h.left; ran = ap (λ o. run_on o (λ us. Some (w ∷ us))) h.ran; ended = ap (λ b. b && may_end h.left) (passing s) ∙ h.ended }
pass_ends {w = w} s ws (e ∷ es) h = grind (arith, given_up)

zero_is_index : is_some (index_of (48 ∷ [])) ≡ true
unfolding index_of
zero_is_index = refl

zero_is_step : is_some (range_step_of (48 ∷ [])) ≡ true
unfolding range_step_of
zero_is_step = refl

zero_is_fraction : is_some (decimal_of (48 ∷ []) (48 ∷ [])) ≡ true
unfolding decimal_of fraction_of
zero_is_fraction = refl

by_word : (b : Bool) (us ws : List Want) (later : Option (List Want)) (ts : List Sign) (left : List Want) → b ≡ true → run (us ++ ws) ts ≡ Some left
    → run_on (moved (if_word b us) ws later) (λ vs. run vs ts) ≡ Some left
by_word b us ws later ts left e h = ap (λ b. run_on (moved (if_word b us) ws later) (λ vs. run vs ts)) e ∙ h

-- a step by itself stands on no stack
abbrev pub real : Want → Bool
real (step n) = false
real _ = true

abbrev pub all_real : List Want → Bool
all_real [] = true
all_real (w ∷ ws) = real w && all_real ws

-- what is wanted first is ended before the others are
pub end_first : (w : Want) (ws : List Want) (es : List Ender) → real w ≡ true → Ends ws (signs_of es) → Ends (w ∷ ws) (signs_of (ending w ++ es))
end_first blanks ws es r h = pass_ends blanks_s ws es h
end_first (steps n) ws es r h = pass_ends steps_s ws es h
end_first after_first_index ws es r h = pass_ends first_s ws es h
end_first more_indexes ws es r h = pass_ends indexes_s ws es h
end_first range_by ws es r h = pass_ends by_s ws es h
end_first after_name ws es r h = pass_ends name_s ws es h
end_first more_names ws es r h = pass_ends names_s ws es h
end_first fraction ws es r h = pass_ends fraction_s ws es h
end_first (inner n) ws es r h = let b = pass_ends blanks_s ws es h in record { left = b.left; ran = b.ran; ended = b.ended }
end_first (term n) ws es r h = let b = pass_ends (steps_s {n = n}) ws es h in record { left = b.left; ran = b.ran; ended = b.ended }
end_first index ws es r h = record { left = h.left; ran = by_word (is_some (index_of (48 ∷ []))) [] ws _ (signs_of es) h.left zero_is_index h.ran; ended = h.ended }
end_first range_to ws es r h =
    let b = pass_ends blanks_s ws es h in record { left = b.left; ran = by_word (is_some (index_of (48 ∷ []))) (blanks ∷ []) ws _ (signs_of es) b.left zero_is_index b.ran; ended = b.ended }
end_first range_step ws es r h =
    let b = pass_ends blanks_s ws es h in record { left = b.left; ran = by_word (is_some (range_step_of (48 ∷ []))) (blanks ∷ []) ws _ (signs_of es) b.left zero_is_step b.ran; ended = b.ended }
end_first digits ws es r h = record { left = h.left; ran = by_word (is_some (decimal_of (48 ∷ []) (48 ∷ []))) [] ws _ (signs_of es) h.left zero_is_fraction h.ran; ended = h.ended }
end_first (step n) ws es r h = cc
end_first plain ws es r h = let b = pass_ends blanks_s ws es h in record { left = b.left; ran = b.ran; ended = b.ended }
end_first indexes_range_or_names ws es r h = let b = pass_ends name_s ws es h in record { left = b.left; ran = b.ran; ended = b.ended }
end_first range_or_names ws es r h = let b = pass_ends name_s ws es h in record { left = b.left; ran = b.ran; ended = b.ended }
end_first _ ws es r h = record { left = h.left; ran = h.ran; ended = h.ended }

-- each stack has tokens that lead from it to the end of a path
abbrev pub endings : (ws : List Want) → List Ender
endings [] = []
endings (w ∷ ws) = ending w ++ endings ws

pub all_end : (ws : List Want) → all_real ws ≡ true → Ends ws (signs_of (endings ws))
all_end [] r = record { left = []; ran = refl; ended = refl }
all_end (w ∷ ws) r = let both = and_parts (real w) (all_real ws) r in end_first w ws (endings ws) both.0 (all_end ws both.1)

run_on_behind : (o : Option (List Want)) (ts us : List Sign) → ((vs : List Want) → run vs (ts ++ us) ≡ run_on (run vs ts) (λ ws. run ws us))
    → run_on o (λ vs. run vs (ts ++ us)) ≡ run_on (run_on o (λ vs. run vs ts)) (λ vs. run vs us)
run_on_behind o ts us h = grind arith

pub run_behind : (ws : List Want) (ts us : List Sign) → run ws (ts ++ us) ≡ run_on (run ws ts) (λ vs. run vs us)
run_behind ws [] us = refl
run_behind ws (t ∷ ts) us = run_on_behind (feed ws t.kind t.word) ts us (λ vs. run_behind vs ts us)

-- tokens that may come one after the other go on to the end of a path
pub goes_on : (ws us : List Want) (ts : List Sign) → run ws ts ≡ Some us → all_real us ≡ true → Ends ws (ts ++ signs_of (endings us))
goes_on ws us ts h r =
    let e = all_end us r in
    record { left = e.left; ran = run_behind ws ts (signs_of (endings us)) ∙ ap (λ o. run_on o (λ vs. run vs (signs_of (endings us)))) h ∙ e.ran; ended = e.ended }
