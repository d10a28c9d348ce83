use Rattle.std.proofs.Common.{◌≡◌, [], drop}
use Rattle.jsonpath_select.specs.plan.Fits.{fits_from}
use Rattle.jsonpath_select.specs.plan.Entries.{entries_of}
use Rattle.jsonpath_select.proofs.compile.token_list_fit.is_token_list_of_path.Given as goal

abbrev pub invariant-loop-token : goal.invariant-loop-token
invariant-loop-token l = fits_from (drop l.token-index l.tokens) (entries_of l.entries.items) ≡ fits_from l.tokens []
