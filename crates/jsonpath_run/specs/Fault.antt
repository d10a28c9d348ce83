-- What a fault prints, and the exit status that it gives.
use Rattle.std.specs.Prelude.{ℕ, List, codes}
use Rattle.jsonpath_select.specs.JsonPathErrors.{error_text}
use Rattle.jsonpath_run.specs.declared.faults.Fault.{Fault}
use Rattle.jsonpath_run.specs.declared.faults.Fault.TheVariants.{Usage, Refused, Io}

abbrev pub status_of : Fault → ℕ
status_of Usage = 2
status_of (Refused error) = 1
status_of Io = 3

abbrev pub fault_text : Fault → List ℕ
fault_text Usage = codes "usage: jsonpath_run select|delete|remove|check PATH | mask PATH..."
fault_text (Refused error) = error_text error
fault_text Io = codes "input or output failed"
