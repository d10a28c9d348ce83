-- What happens to a file that is edited in place and to what stands beside it.
use Rattle.jpath_files.specs.DiskState.{DiskState}
use Rattle.jpath_files.specs.Calls.{Does, Tells, IsKnown, IsFront}
use Rattle.jpath_files.specs.declared.model.Event.{Event}
use Rattle.jpath_files.specs.declared.model.Event.TheVariants.{Called, Known, Read}

abbrev pub Leads : Event → DiskState → DiskState → Type 0
Leads (Called call is_ok) was now = Does call is_ok was now
Leads (Known place facts) was now = Tells (IsKnown place facts) was now
Leads (Read bytes) was now = Tells (IsFront bytes.now) was now
