use Rattle.std.proofs.Common.{◌≡◌, ℕ, ◌+◌, List, [], ◌∷◌, ◌++◌, length, true, Some, Vec, Global, refl, sym, ap, subst, ◌∙◌, arith}
use Rattle.json.specs.Value.{value_view}
use Rattle.jsonpath_paths.specs.Spelling.{Spells}
use Rattle.jsonpath_paths.specs.tree.Tree as tree
use Rattle.jsonpath_paths.specs.tree.View.{path_of, path_of_out, steps_of_list}
use Rattle.jsonpath_nodes.specs.document.OfData.{document_of}
use Rattle.jsonpath_nodes.specs.place.Location.{Location}
use Rattle.jsonpath_select.specs.Meaning.{sel, follow}
use Rattle.jpath_core.specs.AlongExactTree.{StandIn, and_more, value_lines, walk, walk_all, written}
use Rattle.jpath_core.proofs.CarryLemmas.{mapped_some}
use Rattle.jpath_core.proofs.WalkLemmas.{both_nil}
use Rattle.jpath_core.proofs.ExactTreeLemmas.{steps_stand, stand_length}
use Rattle.jpath_core.proofs.exact_tree.exact_evaluator.add_lines_by_exact_tree.Goals as goal

pub returns : goal.returns
returns c = λ exactly d p image spelled.
    let text = c.args.query.now.path in
    let line = c.args.line in
    let exact = value_view c.args.exact.now in
    let n = c.tree-tree.result.now in
    let lines = c.add_lines_from_value-added.new.lines in
    let steps = steps_of_list c.as_slice.result.now in
    let start : List ℕ × ℕ = (c.replace.result.items, 0) in
    let added = c.in_ok-added.ensures.adds c.if-not-branch.false exactly in
    let found = mapped_some (and_more line start) (walk c.text.result.now steps exact) (written lines) (sym added) in
    let all : walk_all (walk c.text.result.now steps) (exact ∷ []) ≡ Some found.0 = both_nil (walk c.text.result.now steps exact) ∙ found.1 in
    let stand = steps_stand c.text.result.now exact d image c.steps_keep_locations_apart.ensures.named c.steps_keep_locations_apart.ensures.range c.steps_keep_locations_apart.ensures.kept c.apart_locations_meet_candidates_once.ensures.candidates c.apart_locations_meet_candidates_once.ensures.no_repeat c.apart_locations_meet_candidates_once.ensures.once
    steps ([] ∷ []) (exact ∷ []) found.0 (c.apart_locations_meet_candidates_once.ensures.one []) refl all in
    let whole : path_of n ≡ tree.path true steps = path_of_out n ∙ rw (c.if-not-tree.false, c.as_slice.ensures.value) refl in
    let mine : path_of n ≡ p = c.one_tree_per_text.ensures text (path_of n) p (subst (λ (t : List ℕ). Spells t (path_of n)) c.path-path.ensures c.tree-tree.ensures.spells) spelled in
    let selects : follow c.text.result.now (document_of d) steps ([] ∷ []) ≡ sel text (document_of d) p =
    ap (λ (q : tree.Path). sel c.text.result.now (document_of d) q) (sym whole ∙ mine) ∙ ap (λ (t : List ℕ). sel t (document_of d) p) (c.text.ensures ∙ c.path-path.ensures) in
    let counted : lines.count ≡ 0 + length found.0 = ap (λ (w : List ℕ × ℕ). w.1) found.2 in
    let number : 0 + length found.0 ≡ length found.0 = omega arith in
    record {
      found = found.0;
      stand = subst (λ (ls : List Location). StandIn exact ls found.0) selects stand;
      written = ap (λ (w : List ℕ × ℕ). w.0) found.2 ∙ ap (λ (v : Vec ℕ Global). v.items ++ value_lines line found.0) c.replace.ensures.value;
      counted = counted ∙ number ∙ stand_length exact _ found.0 stand ∙ ap length selects;
    }
