use Rattle.std.proofs.Common.{◌≡◌, [], ◌++◌, map, None, Some, option_map, sym, ap, ◌∙◌}
use Rattle.std.proofs.lemmas.List.{append-nil}
use Rattle.json.specs.Value.{value_view}
use Rattle.json_trees.specs.ExactAt.{exact_at}
use Rattle.jpath_texts.specs.Rows.{row_line}
use Rattle.jpath_core.specs.Nodes.{location_of}
use Rattle.jpath_core.specs.Rows.{row, no_row}
use Rattle.jpath_core.proofs.output.table.add_row_of_node.Goals as goal

pub returns-in_default : goal.returns-in_default
returns-in_default c =
    let exact = value_view c.args.root.value.now in
    let absent : exact_at exact (location_of c.args.node.now) ≡ None = sym c.in_ok-value.ensures.value ∙ ap (option_map (λ v. value_view v.value.now)) c.in_default.is in
    record { text = []; is_row = no_row absent; written = sym (append-nil c.args.out.now.items) }

pub returns : goal.returns
returns c =
    let exact = value_view c.args.root.value.now in
    let out = c.args.out.now.items in
    let value = value_view c.in-Some.value.value.now in
    let fields = map (λ f. f.items) c.in_ok-fields.fields.items in
    let there : exact_at exact (location_of c.args.node.now) ≡ Some value = sym c.in_ok-value.ensures.value ∙ ap (option_map (λ v. value_view v.value.now)) c.in-Some.is in
    record {
      text = row_line c.args.separated fields;
      is_row = row there c.in_ok-fields.ensures;
      written = c.in_ok-add_row.ensures ∙ ap (λ fs. out ++ row_line c.args.separated (map (λ f. f.items) fs)) c.as_slice.ensures.value;
    }
