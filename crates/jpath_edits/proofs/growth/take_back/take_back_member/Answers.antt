use Rattle.std.proofs.Common.{◌≡◌, false, sym, ap, ap₂, ◌∙◌}
use Rattle.json.specs.Value.{value_view, members_view}
use Rattle.jpath_edits.specs.Grown.{has_name, with_last_member}
use Rattle.jpath_edits.proofs.GrowthLemmas.{made_member, member_last, name_any}
use Rattle.jpath_edits.proofs.growth.take_back.take_back_member.Goals as goal

pub returns-else-is_name_of_any : goal.returns-else-is_name_of_any
returns-else-is_name_of_any c = λ right.
    let k = c.args.name.now in
    let left = c.pop.new.self.items in
    let same = c.is_same_member.ensures right in
    let none : has_name k (members_view left) ≡ false = ap (λ xs. has_name k (members_view xs)) (sym c.as_slice.ensures.value) ∙ sym (name_any k c.as_slice.result.now) ∙ sym c.is_name_of_any.ensures ∙ c.if-is_name_of_any.false in
    ap members_view c.in-Some.ensures.items ∙ member_last left c.in-Some.last ∙ ap₂ (λ n v. with_last_member n v (members_view left)) same.0 same.1
    ∙ made_member k (value_view c.args.new.now) (members_view left) none
