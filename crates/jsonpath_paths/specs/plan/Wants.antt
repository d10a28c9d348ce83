-- What may come next: the grammar as a machine with a stack of what is still wanted, a token at a time.
use Rattle.std.specs.Prelude.{◌≡◌, ℕ, zero, suc, Bool, true, false, ◌&&◌, List, [], ◌∷◌, ◌++◌, Option, Some, None, is_some, if◌then◌else◌, Result, Ok, Err, ⊤}
use Rattle.jsonpath_paths.specs.declared.token.tokens.Kind.{Kind}
use Rattle.jsonpath_paths.specs.declared.token.tokens.Kind.TheVariants as k
use Rattle.jsonpath_paths.specs.Numbers.{index_of, range_step_of, decimal_of}
use Rattle.jsonpath_paths.specs.Literals.{truth_of}
use Rattle.jsonpath_paths.specs.Grammar.{Lexemes, levels}
use Rattle.jsonpath_paths.specs.text.Characters.{bytes_at}
use Rattle.jsonpath_paths.specs.plan.TokensLeft.{TokensLeft}
use Rattle.jsonpath_paths.specs.declared.parser.tree_parser.Refusal.{Refusal}
use Rattle.jsonpath_paths.specs.declared.parser.tree_parser.Refusal.TheVariants as fault

-- What may be wanted next. The number says how many levels may still be opened.
pub data Want : Type 0 where
  -- the root, and blanks or none
  dollar : Want
  blanks : Want
  -- steps or none, one step, and what follows its dots
  steps : (n : ℕ) → Want
  step : (n : ℕ) → Want
  word : Want
  after_dot : (n : ℕ) → Want
  after_dots : (n : ℕ) → Want
  close : Want
  -- what stands in brackets: all that may, what is no filter, no `*`, and no index
  inner : (n : ℕ) → Want
  plain : Want
  indexes_range_or_names : Want
  range_or_names : Want
  -- behind the first index, and further ones
  after_first_index : Want
  more_indexes : Want
  index : Want
  -- the rest of a range
  range_to : Want
  range_by : Want
  range_step : Want
  -- behind the first name, and further ones
  after_name : Want
  more_names : Want
  quoted : Want
  -- the parenthesis of a filter, a condition with the parenthesis that closes it, and the same without blanks before it
  open_group : Want
  condition : (n : ℕ) → Want
  part : (n : ℕ) → Want
  -- behind a path from the candidate, the same behind blanks, and behind the first part of a condition
  candidate_tail : (n : ℕ) → Want
  behind_blank : (n : ℕ) → Want
  tail : (n : ℕ) → Want
  -- a sign of comparison, a side of one, and a literal
  sign : Want
  term : (n : ℕ) → Want
  literal : Want
  -- behind the whole part of a number, and behind its point
  fraction : Want
  digits : Want

-- A token is taken and these are wanted in place of it, or the want is given up for it, or it is refused.
pub data Reaction : Type 0 where
  takes : (wants : List Want) → Reaction
  passes : Reaction
  refuses : Reaction

abbrev pub if_word : Bool → List Want → Reaction
if_word true ws = takes ws
if_word false ws = refuses

-- what is wanted one level deeper, if a level is left
abbrev pub if_level : ℕ → (ℕ → List Want) → Reaction
if_level zero f = refuses
if_level (suc n) f = takes (f n)

abbrev pub side_behind_sign : ℕ → List Want
side_behind_sign n = blanks ∷ term n ∷ blanks ∷ tail n ∷ []

abbrev pub behind_left_side : ℕ → List Want
behind_left_side n = blanks ∷ sign ∷ side_behind_sign n

-- a word as a literal, and what is wanted behind it
abbrev pub literal_word : List ℕ → List Want → Reaction
literal_word w ws = if is_some (truth_of w) then takes ws else if_word (is_some (decimal_of w [])) (fraction ∷ ws)

abbrev pub at_tail : ℕ → Kind → Reaction
at_tail n k.CloseParenthesis = takes []
at_tail n k.And = if_level n (λ m. condition m ∷ [])
at_tail n k.Or = if_level n (λ m. condition m ∷ [])
at_tail n _ = refuses

abbrev pub at_sign_or_tail : ℕ → Kind → Reaction
at_sign_or_tail n k.Equal = takes (side_behind_sign n)
at_sign_or_tail n k.NotEqual = takes (side_behind_sign n)
at_sign_or_tail n k.Little = takes (side_behind_sign n)
at_sign_or_tail n k.LittleOrEqual = takes (side_behind_sign n)
at_sign_or_tail n k.Greater = takes (side_behind_sign n)
at_sign_or_tail n k.GreaterOrEqual = takes (side_behind_sign n)
at_sign_or_tail n kind = at_tail n kind

abbrev pub at_part : ℕ → Kind → List ℕ → Reaction
at_part n k.OpenParenthesis w = if_level n (λ m. condition m ∷ blanks ∷ tail n ∷ [])
at_part n k.At w = takes (steps n ∷ candidate_tail n ∷ [])
at_part n k.Absolute w = takes (steps n ∷ behind_left_side n)
at_part n k.DoubleQuoted w = takes (behind_left_side n)
at_part n k.SingleQuoted w = takes (behind_left_side n)
at_part n k.Key w = literal_word w (behind_left_side n)
at_part n _ w = refuses

abbrev pub at_word : Kind → Reaction
at_word k.Key = takes []
at_word k.Asterisk = takes []
at_word _ = refuses

abbrev pub at_range_or_names : Kind → Reaction
at_range_or_names k.Split = takes (blanks ∷ range_to ∷ range_by ∷ [])
at_range_or_names k.DoubleQuoted = takes (after_name ∷ [])
at_range_or_names k.SingleQuoted = takes (after_name ∷ [])
at_range_or_names _ = refuses

abbrev pub at_indexes_range_or_names : Kind → List ℕ → Reaction
at_indexes_range_or_names k.Key w = if_word (is_some (index_of w)) (blanks ∷ after_first_index ∷ [])
at_indexes_range_or_names kind w = at_range_or_names kind

abbrev pub at_plain : Kind → List ℕ → Reaction
at_plain k.Asterisk w = takes (blanks ∷ [])
at_plain kind w = at_indexes_range_or_names kind w

abbrev pub at_literal : Kind → List ℕ → Reaction
at_literal k.DoubleQuoted w = takes []
at_literal k.SingleQuoted w = takes []
at_literal k.Key w = literal_word w []
at_literal _ w = refuses

abbrev pub move : Want → Kind → List ℕ → Reaction
move dollar k.Absolute w = takes []
move dollar _ w = refuses
move blanks k.Whitespace w = takes []
move blanks _ w = passes
move (steps n) k.Dot w = takes (after_dot n ∷ steps n ∷ [])
move (steps n) k.OpenArray w = takes (blanks ∷ inner n ∷ close ∷ steps n ∷ [])
move (steps n) _ w = passes
move (step n) k.Dot w = takes (after_dot n ∷ [])
move (step n) k.OpenArray w = takes (blanks ∷ inner n ∷ close ∷ [])
move (step n) _ w = refuses
move word kind w = at_word kind
move (after_dot n) k.Dot w = takes (after_dots n ∷ [])
move (after_dot n) k.OpenArray w = takes (inner n ∷ close ∷ [])
move (after_dot n) kind w = at_word kind
move (after_dots n) k.OpenArray w = takes (blanks ∷ inner n ∷ close ∷ [])
move (after_dots n) kind w = at_word kind
move close k.CloseArray w = takes []
move close _ w = refuses
move (inner n) k.Question w = if_level n (λ m. open_group ∷ condition m ∷ blanks ∷ [])
move (inner n) kind w = at_plain kind w
move plain kind w = at_plain kind w
move indexes_range_or_names kind w = at_indexes_range_or_names kind w
move range_or_names kind w = at_range_or_names kind
move after_first_index k.Comma w = takes (blanks ∷ index ∷ more_indexes ∷ [])
move after_first_index k.Split w = takes (blanks ∷ range_to ∷ range_by ∷ [])
move after_first_index _ w = passes
move more_indexes k.Comma w = takes (blanks ∷ index ∷ more_indexes ∷ [])
move more_indexes k.Whitespace w = takes []
move more_indexes _ w = passes
move index k.Key w = if_word (is_some (index_of w)) []
move index _ w = refuses
move range_to k.Key w = if_word (is_some (index_of w)) (blanks ∷ [])
move range_to _ w = passes
move range_by k.Split w = takes (blanks ∷ range_step ∷ [])
move range_by _ w = passes
move range_step k.Key w = if_word (is_some (range_step_of w)) (blanks ∷ [])
move range_step _ w = passes
move after_name k.Comma w = takes (blanks ∷ quoted ∷ blanks ∷ more_names ∷ [])
move after_name k.Whitespace w = takes []
move after_name _ w = passes
move more_names k.Comma w = takes (blanks ∷ quoted ∷ blanks ∷ more_names ∷ [])
move more_names _ w = passes
move quoted k.DoubleQuoted w = takes []
move quoted k.SingleQuoted w = takes []
move quoted _ w = refuses
move open_group k.OpenParenthesis w = takes []
move open_group _ w = refuses
move (condition n) k.Whitespace w = takes (part n ∷ [])
move (condition n) kind w = at_part n kind w
move (part n) kind w = at_part n kind w
move (candidate_tail n) k.Whitespace w = takes (behind_blank n ∷ [])
move (candidate_tail n) kind w = at_sign_or_tail n kind
move (behind_blank n) kind w = at_sign_or_tail n kind
move (tail n) kind w = at_tail n kind
move sign k.Equal w = takes []
move sign k.NotEqual w = takes []
move sign k.Little w = takes []
move sign k.LittleOrEqual w = takes []
move sign k.Greater w = takes []
move sign k.GreaterOrEqual w = takes []
move sign _ w = refuses
move (term n) k.At w = takes (steps n ∷ [])
move (term n) k.Absolute w = takes (steps n ∷ [])
move (term n) kind w = at_literal kind w
move literal kind w = at_literal kind w
move fraction k.Dot w = takes (digits ∷ [])
move fraction _ w = passes
-- any whole part may stand before these
move digits k.Key w = if_word (is_some (decimal_of (48 ∷ []) w)) []
move digits _ w = refuses

-- what is wanted once this token is taken, if it may come next
abbrev pub moved : Reaction → List Want → Option (List Want) → Option (List Want)
moved (takes us) ws later = Some (us ++ ws)
moved passes ws later = later
moved refuses ws later = None

abbrev pub feed : List Want → Kind → List ℕ → Option (List Want)
feed [] kind w = None
feed (v ∷ vs) kind w = moved (move v kind w) vs (feed vs kind w)

pub record Sign : Type 0 where
  pub kind : Kind
  pub word : List ℕ

-- the signs of tokens of a text
abbrev pub signs : List ℕ → Lexemes → List Sign
signs text [] = []
signs text (p ∷ ps) = record { kind = p.kind; word = bytes_at text p.span } ∷ signs text ps

abbrev pub run_on : Option (List Want) → (List Want → Option (List Want)) → Option (List Want)
run_on None f = None
run_on (Some ws) f = f ws

abbrev pub run : List Want → List Sign → Option (List Want)
run ws [] = Some ws
run ws (t ∷ ts) = run_on (feed ws t.kind t.word) (λ us. run us ts)

-- a path may end here
abbrev pub may_pass : Want → Bool
may_pass blanks = true
may_pass (steps n) = true
may_pass after_first_index = true
may_pass more_indexes = true
may_pass range_to = true
may_pass range_by = true
may_pass range_step = true
may_pass after_name = true
may_pass more_names = true
may_pass fraction = true
may_pass _ = false

abbrev pub may_end : List Want → Bool
may_end [] = true
may_end (w ∷ ws) = may_pass w && may_end ws

abbrev pub whole_wants : List Want
whole_wants = dollar ∷ steps levels ∷ blanks ∷ []

abbrev pub stop_on : Option (List Want) → Lexemes → (List Want → Option Lexemes) → Option Lexemes
stop_on None here later = Some here
stop_on (Some us) here later = later us

module _ (text : List ℕ) where
  -- the tokens from the first one that may not come next; None where they are the end of a path
  abbrev pub stop : List Want → Lexemes → Option Lexemes
  stop ws [] = if may_end ws then None else Some []
  stop ws (p ∷ ps) = stop_on (feed ws p.kind (bytes_at text p.span)) (p ∷ ps) (λ us. stop us ps)

-- a fault is where the machine stops behind these wants
abbrev pub StopsErr : List Want → Refusal → TokensLeft → TokensLeft → Type 0
StopsErr vs fault.Refused old new = (ws : List Want) → stop old.text (vs ++ ws) old.lexemes ≡ Some new.lexemes
StopsErr vs fault.OutOfMemory old new = ⊤

-- What is read goes on as the machine does behind these wants, of which some are left, and stops where it stops.
abbrev pub StopsBefore : {A : Type 0} → List Want → List Want → Result A Refusal → TokensLeft → TokensLeft → Type 0
StopsBefore vs us (Ok x) old new = (ws : List Want) → stop old.text (vs ++ ws) old.lexemes ≡ stop old.text (us ++ ws) new.lexemes
StopsBefore vs us (Err f) old new = StopsErr vs f old new

abbrev pub Stops : {A : Type 0} → List Want → Result A Refusal → TokensLeft → TokensLeft → Type 0
Stops vs = StopsBefore vs []

-- the same of a condition one level deeper, where a level is left
abbrev pub StopsDeeper : {A : Type 0} → ℕ → Result A Refusal → TokensLeft → TokensLeft → Type 0
StopsDeeper zero result old new = ⊤
StopsDeeper (suc n) result old new = Stops (condition n ∷ []) result old new

-- the same of what is read behind a token, if that is taken
abbrev pub StopsBehind : {A : Type 0} → Reaction → Result A Refusal → TokensLeft → TokensLeft → Type 0
StopsBehind (takes us) result old new = Stops us result old new
StopsBehind passes result old new = ⊤
StopsBehind refuses result old new = ⊤
