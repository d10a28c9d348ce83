use Rattle.std.proofs.Common.{◌≡◌, ◌-◌, List, ◌++◌, map, length, take, vec_len, sym, ap, ◌∙◌, arith}
use Rattle.std.specs.Prelude.{option_to_list}
use Rattle.std.proofs.lemmas.List.{length-map}
use Rattle.jsonpath_nodes.specs.place.SpotPlace.{Spot}
use Rattle.jsonpath_nodes.specs.place.SpotPlace.{location_of, value_of, look_from, sight_of}
use Rattle.jsonpath_nodes.specs.step.Steps.{single_steps, named}
use Rattle.jsonpath_nodes.proofs.place.LeadLemmas.{named_few}
use Rattle.jsonpath_nodes.proofs.place.KeptLemmas.{leads}
use Rattle.jsonpath_nodes.proofs.place.spot.Spot.member.Goals as goal

pub returns : goal.returns
returns c =
    let self = c.args.self.now in
    let ls = single_steps (named c.args.name.now) (value_of self) in
    let look = look_from (location_of self) (value_of self) in
    let found = c.add_named_member.new.out in
    let seen : map sight_of found.items ≡ map look ls = c.in_ok-add_named_member.ensures ∙ ap (λ (ss : List Spot). map sight_of ss ++ map look ls) c.new-found.ensures.items in
    let few : vec_len found - 1 ≡ 0 =
    omega (arith, found.ok.0, length-map found.items sight_of, ap length seen, length-map ls look, named_few c.args.name.now (value_of self)) in
    let all : found.items ≡ option_to_list c.pop.result = c.pop.ensures.items ∙ ap (λ (rest : List Spot). rest ++ option_to_list c.pop.result) (c.pop.ensures.rest ∙ ap (λ n. take n found.items) few) in
    leads (single_steps (named c.args.name.now)) self (option_to_list c.pop.result) (ap (map sight_of) (sym all) ∙ seen)
