-- Each event can lead to what is said of it.
use Rattle.std.proofs.Common.{◌+◌, ◌++◌, [], Bool, true, false, refl, rules}
use Rattle.jpath_files.specs.DiskState.{DiskState, overwritten, resized}
use Rattle.jpath_files.specs.Calls.{Does}
use Rattle.jpath_files.specs.Events.{Leads}
use Rattle.jpath_files.specs.declared.disk.Call.{Call}
use Rattle.jpath_files.specs.declared.disk.Call.TheVariants.{WriteAt, SetLen, SyncFile, OpenFolder, Remove, Create, Give, Write, SetMode, SyncNewFile, Rename, SyncFolder}
use Rattle.jpath_files.specs.declared.model.Event.{Event}
use Rattle.jpath_files.specs.declared.model.Event.TheVariants.{Called, Known, Read}

abbrev refused : DiskState → DiskState
refused was = record was { refusals = was.refusals + 1 }

abbrev behind_call : Call → Bool → DiskState → DiskState
behind_call (WriteAt bytes at) true was = record was { file = record was.file { bytes = overwritten at bytes.now was.file.bytes } }
behind_call (WriteAt bytes at) false was = refused was
behind_call (SetLen len) true was = record was { file = record was.file { bytes = resized len was.file.bytes } }
behind_call (SetLen len) false was = refused was
behind_call SyncFile true was = record was { file = record was.file { is_synced = true } }
behind_call SyncFile false was = refused was
behind_call Remove true was = record was { has_new_file = false }
behind_call Remove false was = record was { is_stuck = was.has_new_file }
behind_call Create true was = record was { new_file = record was.new_file { bytes = [] }; has_new_file = true }
behind_call (Write bytes) true was = record was { new_file = record was.new_file { bytes = was.new_file.bytes ++ bytes.now } }
behind_call SyncNewFile true was = record was { new_file = record was.new_file { is_synced = true } }
behind_call Rename true was = record was { file = was.new_file; has_new_file = false }
behind_call SyncFolder true was = record was { is_folder_synced = true }
behind_call _ _ was = was

Does-behind_call : (call : Call) (is_ok : Bool) (was : DiskState) → Does call is_ok was (behind_call call is_ok was)
Does-behind_call (WriteAt bytes at) true was = search rules
Does-behind_call (WriteAt bytes at) false was = search rules
Does-behind_call (SetLen len) true was = search rules
Does-behind_call (SetLen len) false was = search rules
Does-behind_call SyncFile true was = search rules
Does-behind_call SyncFile false was = search rules
Does-behind_call OpenFolder true was = refl
Does-behind_call OpenFolder false was = refl
Does-behind_call Remove true was = search rules
Does-behind_call Remove false was = search rules
Does-behind_call Create true was = search rules
Does-behind_call Create false was = refl
Does-behind_call (Give owner group) true was = search rules
Does-behind_call (Give owner group) false was = refl
Does-behind_call (Write bytes) true was = search rules
Does-behind_call (Write bytes) false was = search rules
Does-behind_call (SetMode mode) true was = search rules
Does-behind_call (SetMode mode) false was = refl
Does-behind_call SyncNewFile true was = search rules
Does-behind_call SyncNewFile false was = refl
Does-behind_call Rename true was = search rules
Does-behind_call Rename false was = refl
Does-behind_call SyncFolder true was = search rules
Does-behind_call SyncFolder false was = refl

-- the files behind an event; what is told may be wrong
abbrev pub behind : Event → DiskState → DiskState
behind (Called call is_ok) was = behind_call call is_ok was
behind _ was = record was { agrees = false }

pub Leads-behind : (event : Event) (was : DiskState) → Leads event was (behind event was)
Leads-behind (Called call is_ok) was = Does-behind_call call is_ok was
Leads-behind (Known place facts) was = ((refl, (refl, refl, refl), refl, λ e. cc), λ e. cc)
Leads-behind (Read bytes) was = ((refl, (refl, refl, refl), refl, λ e. cc), λ e. cc)
