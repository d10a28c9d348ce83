use Rattle.std.proofs.Common.{◌≡◌, ℕ, List, Bool, false, refl, sym, ap, ◌∙◌, subst}
use Rattle.std.proofs.lemmas.Result.{on_ok_weaker}
use Rattle.jsonpath_nodes.specs.document.Document.{Document}
use Rattle.jsonpath_nodes.specs.step.Steps.{step, named}
use Rattle.jsonpath_paths.specs.declared.token.tokens.ParseToken.{ParseToken}
use Rattle.jsonpath_paths.specs.declared.token.tokens.ParseToken.TheVariants.{Key}
use Rattle.jsonpath_paths.specs.declared.text.str_reader.StrRange.{StrRange}
use Rattle.jsonpath_select.specs.Parts.{name_at}
use Rattle.jsonpath_select.specs.plan.Code.{plain_step}
use Rattle.jsonpath_select.specs.plan.Machine.{stepped, top_led}
use Rattle.jsonpath_select.proofs.machine.LeadTopLemmas.{IsLead, can_lead, leads}
use Rattle.jsonpath_select.proofs.machine.machine.Machine.take_plain_step.Goals as goal

-- a plain step leads as a move by its token does
by_step : (text : List ℕ) (leaves : Bool) (token : ParseToken) (doc : Document) → IsLead text doc (plain_step leaves token) (stepped text doc leaves token)
by_step text leaves token doc = ((λ cand os. refl), (λ s. refl))

-- and a step by one name as a move to the member of that name
by_name : (text key : List ℕ) (leaves : Bool) (token : ParseToken) (span : StrRange) (doc : Document) → leaves ≡ false → token ≡ Key span → key ≡ name_at text span → IsLead text doc (plain_step leaves token) (λ ls. step doc (named key) ls)
by_name text key leaves token span doc without is named_so =
    subst (λ (b : Bool). IsLead text doc (plain_step b token) (λ ls. step doc (named key) ls)) (sym without)
    (subst (λ (t : ParseToken). IsLead text doc (plain_step false t) (λ ls. step doc (named key) ls)) (sym is)
    ((λ cand os. ap (λ (k : List ℕ). top_led (λ ls. step doc (named k) ls) cand os) (sym named_so)), (λ s. refl)))

pub lead_top-requires : goal.lead_top-requires
lead_top-requires g c =
    let text = c.args.self.now.text.now in
    (can_lead g.M.Mark.located g.M.Mark.stand g.M.Mark.content text (plain_step c.args.leaves c.args.token.now) (λ doc. stepped text doc c.args.leaves c.args.token.now) c.args.stacks.now (by_step text c.args.leaves c.args.token.now) c.requires)

pub returns-in_ok-key-in-false-Key : goal.returns-in_ok-key-in-false-Key
returns-in_ok-key-in-false-Key g c =
    let text = c.args.self.now.text.now in
    let key = c.as_str.result.now in
    on_ok_weaker c.lead_top.result
    (λ led doc. leads g.M.Mark.located g.M.Mark.stand g.M.Mark.content text doc (plain_step c.args.leaves c.args.token.now) (λ ls. step doc (named key) ls) c.args.stacks.now c.lead_top.new.stacks
    (by_name text key c.args.leaves c.args.token.now c.in-false-Key.span doc c.in-false-Key.is-0 c.in-false-Key.is-1 (c.as_str.ensures.value ∙ c.in_ok-key-in-false-Key.ensures)) (led doc))
    c.lead_top.ensures

pub lead_top-requires-in_default : goal.lead_top-requires-in_default
lead_top-requires-in_default g c =
    let text = c.args.self.now.text.now in
    (can_lead g.M.Mark.located g.M.Mark.stand g.M.Mark.content text (plain_step c.args.leaves c.args.token.now) (λ doc. stepped text doc c.args.leaves c.args.token.now) c.args.stacks.now (by_step text c.args.leaves c.args.token.now) c.requires)

pub returns-in_default : goal.returns-in_default
returns-in_default g c =
    let text = c.args.self.now.text.now in
    on_ok_weaker c.lead_top-in_default.result
    (λ led doc. leads g.M.Mark.located g.M.Mark.stand g.M.Mark.content text doc (plain_step c.args.leaves c.args.token.now) (stepped text doc c.args.leaves c.args.token.now) c.args.stacks.now c.lead_top-in_default.new.stacks
    (by_step text c.args.leaves c.args.token.now doc) (led doc))
    c.lead_top-in_default.ensures
