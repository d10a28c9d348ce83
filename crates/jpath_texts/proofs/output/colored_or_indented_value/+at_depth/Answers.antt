use Rattle.std.proofs.Common.{◌≡◌, ◌+◌, ◌∷◌, ◌++◌, true, drop, sym, ap, ◌∙◌, arith}
use Rattle.std.proofs.lemmas.List.{drop_more, append_assoc}
use Rattle.json.specs.Print.{quoted}
use Rattle.json.specs.Value.{value_view, items_view, members_view}
use Rattle.jpath_texts.specs.AtDepth.{at_depth, rest_of_array, rest_of_object, comma_and_indent, colon, in_color, name_color}
use Rattle.jpath_texts.proofs.output.colored_or_indented_value.+at_depth.Goals as goal

pub add_array_at_depth-loop-item-preserved : goal.add_array_at_depth-loop-item-preserved
add_array_at_depth-loop-item-preserved t c =
    let l = c.loop-item in
    let xs = c.deref-item-items.result.now in
    let x = c.item-item.result in
    let look = c.args.look in
    let later = rest_of_array true look c.args.depth (items_view (drop (l.item-index + 1) xs)) in
    let here : drop l.item-index xs ≡ x ∷ drop (l.item-index + 1) xs = drop_more xs l.item-index x (omega arith) ∙ ap (λ y. y ∷ drop (l.item-index + 1) xs) (sym c.item-item.is) in
    let left = ap (λ ys. rest_of_array l.has_items look c.args.depth (items_view ys)) here in
    let inside = c.inner_depth-inside.result in
    let before = comma_and_indent l.has_items look.layout inside in
    let mine = at_depth look inside (value_view x) in
    ap (λ b. b ++ later) (c.in_ok-add_value_at_depth.ensures ∙ ap (λ b. b ++ mine) c.in_ok-add_comma_and_indent.ensures)
    ∙ append_assoc _ mine later ∙ append_assoc l.out.items before (mine ++ later)
    ∙ ap (λ d. l.out.items ++ (comma_and_indent l.has_items look.layout d ++ (at_depth look d (value_view x) ++ later))) c.inner_depth-inside.ensures
    ∙ ap (λ b. l.out.items ++ b) (sym left) ∙ l.invariant

pub add_object_at_depth-loop-member-preserved : goal.add_object_at_depth-loop-member-preserved
add_object_at_depth-loop-member-preserved t c =
    let l = c.loop-member in
    let xs = c.deref-member-items.result.now in
    let x = c.member-item.result in
    let look = c.args.look in
    let later = rest_of_object true look c.args.depth (members_view (drop (l.member-index + 1) xs)) in
    let here : drop l.member-index xs ≡ x ∷ drop (l.member-index + 1) xs = drop_more xs l.member-index x (omega arith) ∙ ap (λ y. y ∷ drop (l.member-index + 1) xs) (sym c.member-item.is) in
    let left = ap (λ ys. rest_of_object l.has_members look c.args.depth (members_view ys)) here in
    let inside = c.inner_depth-inside.result in
    let before = comma_and_indent l.has_members look.layout inside in
    let name = in_color look.is_colored name_color (quoted x.0.now) in
    let colon = colon look.layout in
    let mine = at_depth look inside (value_view x.1) in
    ap (λ b. b ++ later) (c.in_ok-add_value_at_depth.ensures ∙ ap (λ b. b ++ mine) (c.in_ok-add_colon.ensures ∙ ap (λ b. b ++ colon) (c.in_ok-add_quoted_in_color.ensures ∙ ap (λ b. b ++ name) c.in_ok-add_comma_and_indent.ensures)))
    ∙ append_assoc _ mine later ∙ append_assoc _ colon (mine ++ later) ∙ append_assoc _ name (colon ++ (mine ++ later)) ∙ append_assoc l.out.items before _
    ∙ ap (λ d. l.out.items ++ (comma_and_indent l.has_members look.layout d ++ (name ++ (colon ++ (at_depth look d (value_view x.1) ++ later))))) c.inner_depth-inside.ensures
    ∙ ap (λ b. l.out.items ++ b) (sym left) ∙ l.invariant
