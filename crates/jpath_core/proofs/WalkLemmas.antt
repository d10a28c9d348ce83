-- What is written along the steps of a path, value by value.
use Rattle.std.proofs.Common.{◌≡◌, ℕ, ◌+◌, List, [], ◌∷◌, ◌++◌, filter, length, Bool, true, false, Option, Some, None, option_and_then, refl, sym, ap, ap₂, ◌∙◌, arith}
use Rattle.std.specs.Prelude.{◌&&◌, if◌then◌else◌}
use Rattle.std.specs.Borrow.{Bor}
use Rattle.std.proofs.lemmas.List.{append-nil, append_assoc, length-append}
use Rattle.std.proofs.lemmas.Grind.{flat_map-append}
use Rattle.json.specs.Json as json
use Rattle.json.specs.Json.{Json}
use Rattle.jsonpath_paths.specs.tree.Tree as tree
use Rattle.jpath_core.specs.AlongExactTree.{list_of, is_no_array, are_no_arrays, is_simple, holds_exact, both, walk, walk_all, next, kept_from, value_line, value_lines, written, and_more, after}
use Rattle.jpath_texts.specs.declared.output.match_line.Line.{Line}
use Rattle.jpath_core.specs.declared.exact_tree.exact_evaluator.Lines.{Lines}
use Rattle.jpath_core.proofs.CarryLemmas.{pick}

pub both_nil : (a : Option (List Json)) → both a (Some []) ≡ a
both_nil None = refl
both_nil (Some xs) = ap Some (append-nil xs)

pub both_none : (a : Option (List Json)) → both a None ≡ None
both_none None = refl
both_none (Some xs) = refl

pub both_empty : (a : Option (List Json)) → both (Some []) a ≡ a
both_empty None = refl
both_empty (Some xs) = refl

pub both_assoc : (a b c : Option (List Json)) → both a (both b c) ≡ both (both a b) c
both_assoc None b c = refl
both_assoc (Some xs) None c = refl
both_assoc (Some xs) (Some ys) None = refl
both_assoc (Some xs) (Some ys) (Some zs) = ap Some (sym (append_assoc xs ys zs))

lines_append : (line : Option (Bor Line)) (xs ys : List Json) → value_lines line xs ++ value_lines line ys ≡ value_lines line (xs ++ ys)
lines_append None xs ys = refl
lines_append (Some line) xs ys = sym (flat_map-append (value_line line.now) xs ys)

twice : (line : Option (Bor Line)) (w : List ℕ × ℕ) (xs ys : List Json) → and_more line (and_more line w xs) ys ≡ and_more line w (xs ++ ys)
twice line w xs ys =
    let counted : w.1 + length xs + length ys ≡ w.1 + length (xs ++ ys) = omega (arith, length-append xs ys) in
    ap₂ (λ (o : List ℕ) (n : ℕ). (o, n)) (append_assoc w.0 (value_lines line xs) (value_lines line ys) ∙ ap (λ v. w.0 ++ v) (lines_append line xs ys)) counted

pub after_more : (line : Option (Bor Line)) (old new : Lines) (a b : Option (List Json)) → Some (written new) ≡ after line old a → after line new b ≡ after line old (both a b)
after_more line old new None b e = absurd (cc)
after_more line old new (Some xs) None e = refl
after_more line old new (Some xs) (Some ys) e =
    let is : written new ≡ and_more line (written old) xs = ap (pick (written old)) e in
    ap Some (ap (λ w. and_more line w ys) is ∙ twice line (written old) xs ys)

-- ---- candidates one by one

kept_more : (w : Json → Option (List Json)) (x : Json) (fs : List Json) (a h b : Bool)
    → both (if a then (if h then w x else Some []) else None) (option_and_then (walk_all w) (if b then Some fs else None)) ≡ option_and_then (walk_all w) (if a && b then Some (if h then x ∷ fs else fs) else None)
kept_more w x fs false h b = refl
kept_more w x fs true h false = both_none (if h then w x else Some [])
kept_more w x fs true true true = refl
kept_more w x fs true false true = both_empty (walk_all w fs)

pub kept_all : (text : List ℕ) (rest : tree.PathSteps) (f : tree.Condition) (js : json.Items) → is_simple f ≡ true → walk_all (kept_from text rest f) (list_of js) ≡ next text rest (tree.filter f) (json.array js)
kept_all text rest f json.no_items ok = rw ok refl
kept_all text rest f (json.item x js) ok =
    ap (both (kept_from text rest f x)) (kept_all text rest f js ok)
    ∙ rw ok (kept_more (walk text rest) x (filter (holds_exact text f) (list_of js)) (is_no_array x) (holds_exact text f x) (are_no_arrays js))
