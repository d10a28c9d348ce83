-- Parts that give way, from what was found of them piece by piece.
use Rattle.std.proofs.Common.{◌≡◌, ℕ, ◌-◌, ◌≤◌, Bool, IsTrue, IfOk, Result, Ok, Err, List, ◌++◌, map, take, drop, IsPermutation, sym, ap, ap₂, subst, ◌∙◌, arith, ◌+◌}
use Rattle.std.specs.Prelude.{slice_range, Some}
use Rattle.std.proofs.Math.Seq.{take-add}
use Rattle.std.proofs.lemmas.List.{drop-drop}
use Rattle.std.proofs.lemmas.List.Sorted.{IsPermutation-map}
use Rattle.json.specs.Json.{Json}
use Rattle.jsonpath_nodes.specs.place.Location.{Step, Location}
use Rattle.jsonpath_nodes.specs.step.SameMembers.{topmost}
use Rattle.jpath_edits.specs.Changed.{replaced, part_text, put_by, below_root, IsEdge, IsLabel, IsChildText, GiveWayAt, GiveWay, IsSplicedAt, IsChangedAt}
use Rattle.json_trees.specs.Exact.{exact_of}
use Rattle.jpath_edits.specs.declared.change.Change.{Change}
use Rattle.jpath_edits.specs.declared.parts.part.Part.{Part}
use Rattle.json_trees.specs.declared.refusal.DocumentRefusal.{DocumentRefusal}

-- a part of a text, cut in two
range_on : (text : List ℕ) (i j k : ℕ) → i ≤ j → j ≤ k → slice_range text i k ≡ slice_range text i j ++ slice_range text j k
range_on text i j k h g =
    let whole : k - i ≡ (j - i) + (k - j) = omega arith in
    let on : i + (j - i) ≡ j = omega arith in
    ap (λ n. take n (drop i text)) whole ∙ take-add (j - i) (k - j) (drop i text)
    ∙ ap (λ (xs : List ℕ). slice_range text i j ++ take (k - j) xs) (drop-drop (j - i) i text ∙ ap (λ n. drop n text) on)

pub child_text : (r : Result Bool DocumentRefusal) (step : Step) (j : Json) (text : List ℕ) (part : Part) (before label own behind : List ℕ)
    → part.start ≤ part.label → part.label ≤ part.value → part.value ≤ part.value_end → part.value_end ≤ part.end
    → before ≡ slice_range text part.start part.label → label ≡ slice_range text part.label part.value → own ≡ slice_range text part.value part.value_end → behind ≡ slice_range text part.value_end part.end
    → IsEdge before → IsLabel step label → IsEdge behind
    → IfOk r (λ b. IsTrue b → exact_of own ≡ Some j) → IfOk r (λ b. IsTrue b → IsChildText step j (part_text text part))
child_text (Err e) step j text part before label own behind f g h i w x y z begins labelled ends read = read
child_text (Ok b) step j text part before label own behind f g h i w x y z begins labelled ends read = λ right. record {
  before = before;
  label = label;
  own = own;
  behind = behind;
  parts =
      let a = part.start in
      let d = part.value_end in
      let e = part.end in
      let last : slice_range text part.value e ≡ own ++ behind = range_on text part.value d e h i ∙ ap₂ (λ (us vs : List ℕ). us ++ vs) (sym y) (sym z) in
      let more : slice_range text part.label e ≡ label ++ (own ++ behind) = range_on text part.label part.value e g (omega arith) ∙ ap₂ (λ (us vs : List ℕ). us ++ vs) (sym x) last in
      range_on text a part.label e f (omega arith) ∙ ap₂ (λ (us vs : List ℕ). us ++ vs) (sym w) more;
  begins = begins;
  labelled = labelled;
  read = read right;
  ends = ends;
}

pub given : (r : Result Bool DocumentRefusal) (change : Change) (tree : Json) (ls tops : List Location) (text : List ℕ) (parts ordered : List Part) → tops ≡ topmost ls → IsPermutation parts ordered
    → IfOk r (λ b. IsTrue b → GiveWayAt change tree tops (map (part_text text) ordered)) → IfOk r (λ b. IsTrue b → GiveWay change tree ls (map (part_text text) parts))
given (Err e) change tree ls tops text parts ordered are moved h = h
given (Ok b) change tree ls tops text parts ordered are moved h = λ right. record {
  ordered = map (part_text text) ordered;
  same = IsPermutation-map (part_text text) parts ordered moved;
  there = subst (λ (ms : List Location). GiveWayAt change tree ms (map (part_text text) ordered)) are (h right);
}

-- an edited text, from its parts
pub changed_at : (change : Change) (tree : Json) (locations below : List Location) (parts : List Part) (put bytes text written : List ℕ) → put ≡ put_by change → bytes ≡ text → below ≡ below_root locations
    → IsSplicedAt parts put bytes written → GiveWay change tree below (map (part_text text) parts) → IsChangedAt change tree locations text written
changed_at change tree locations below parts put bytes text written put_is text_is below_is at way =
    let was = at.spliced in
    let gone : map (λ c. c.gone) was.cuts ≡ map (part_text text) parts = at.gone ∙ ap (λ (us : List ℕ). map (part_text us) parts) text_is in
    record {
      spliced = record {
        cuts = was.cuts;
        rest = was.rest;
        before = sym text_is ∙ was.before;
        after = was.after ∙ ap (λ (us : List ℕ). replaced us was.cuts ++ was.rest) put_is;
      };
      parts = subst (λ (ls : List Location). GiveWay change tree ls (map (λ c. c.gone) was.cuts)) below_is (subst (GiveWay change tree below) (sym gone) way);
    }
