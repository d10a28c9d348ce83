use Rattle.std.proofs.Common.{◌≡◌, ℕ, suc, ◌+◌, List, [], ◌∷◌, length, refl, ap, sym, ◌∙◌, rules}
use Rattle.std.specs.Borrow.{Bor}
use Rattle.json.proofs.Trees.{view-Array, view-Object}
use Rattle.json.specs.Json.{Json, array, object}
use Rattle.json.specs.Value.{value_view, items_view, members_view}
use Rattle.json.specs.declared.value.Value.{Value}
use Rattle.jpath_texts.specs.Entries.{entries, entries_of_items, entries_of_members}
use Rattle.jpath_texts.proofs.output.entry_lines.count_entries.Goals as goal

counted_items : {A : Type 0} (n : ℕ) (xs : List (Value A)) → length (entries_of_items n (items_view xs)) ≡ length xs
counted_items n [] = refl
counted_items n (x ∷ xs) = ap suc (counted_items (n + 1) xs)

counted_members : {A : Type 0} (ms : List (Bor (List ℕ) × Value A)) → length (entries_of_members (members_view ms)) ≡ length ms
counted_members [] = refl
counted_members (m ∷ ms) = ap suc (counted_members ms)

pub returns-in-Array : goal.returns-in-Array
returns-in-Array c =
    let items = c.in-Array.items in
    let seen : value_view c.args.value.now ≡ array (items_view items.items) = ap value_view c.in-Array.is ∙ view-Array items in
    let counted : c.len.result ≡ length items.items = search rules in
    counted ∙ sym (counted_items 0 items.items) ∙ ap (λ (j : Json). length (entries j)) (sym seen)

pub returns-in-Object : goal.returns-in-Object
returns-in-Object c =
    let members = c.in-Object.members in
    let seen : value_view c.args.value.now ≡ object (members_view members.items) = ap value_view c.in-Object.is ∙ view-Object members in
    let counted : c.len-in-Object.result ≡ length members.items = search rules in
    counted ∙ sym (counted_members members.items) ∙ ap (λ (j : Json). length (entries j)) (sym seen)
