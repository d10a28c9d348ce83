-- What each call of the system does to a file that is edited in place and to what stands beside it. Of what is not said of
-- a call, anything may be so behind it.
use Rattle.std.specs.Prelude.{◌≡◌, ℕ, ◌+◌, List, [], ◌++◌, length, take, Bool, true, false}
use Rattle.jpath_files.specs.DiskState.{DiskState, HasSameAccess, KeepsAccess, KeepsNewFile, IsSame, overwritten, resized}
use Rattle.jpath_files.specs.declared.file_facts.FileFacts.{FileFacts}
use Rattle.jpath_files.specs.declared.disk.Place.{Place}
use Rattle.jpath_files.specs.declared.disk.Place.TheVariants.{Path, Beside, NewFile}
use Rattle.jpath_files.specs.declared.disk.Call.{Call}
use Rattle.jpath_files.specs.declared.disk.Call.TheVariants.{WriteAt, SetLen, SyncFile, OpenFolder, Remove, Create, Give, Write, SetMode, SyncNewFile, Rename, SyncFolder}

abbrev KeepsFile : DiskState → DiskState → Type 0
KeepsFile was now = (now.file ≡ was.file) × (now.agrees ≡ was.agrees)

-- The file is written, or the system refuses that so often. The system may take the bits that set a user or a group away.
abbrev IsWritten : ℕ → DiskState → DiskState → Type 0
IsWritten refusals was now = KeepsAccess was.file.facts now.file.facts × KeepsNewFile was now × (now.refusals ≡ was.refusals + refusals) × (now.agrees ≡ was.agrees)

-- what a call does, by whether it succeeds
abbrev pub Does : Call → Bool → DiskState → DiskState → Type 0
Does (WriteAt bytes at) true was now = (now.file.bytes ≡ overwritten at bytes.now was.file.bytes) × IsWritten 0 was now
Does (WriteAt bytes at) false was now = IsWritten 1 was now
Does (SetLen len) true was now = (now.file.bytes ≡ resized len was.file.bytes) × IsWritten 0 was now
Does (SetLen len) false was now = IsWritten 1 was now
Does SyncFile true was now = (now.file.bytes ≡ was.file.bytes) × (now.file.is_synced ≡ true) × IsWritten 0 was now
Does SyncFile false was now = (now.file.bytes ≡ was.file.bytes) × IsWritten 1 was now
Does OpenFolder true was now = now ≡ was
Does Remove true was now = (now.has_new_file ≡ false) × KeepsFile was now
Does Remove false was now = (now.has_new_file ≡ was.has_new_file) × (now.is_stuck ≡ was.has_new_file) × KeepsFile was now
Does Create true was now = (now.new_file.bytes ≡ []) × (now.has_new_file ≡ true) × KeepsFile was now
Does (Give owner group) true was now = (now.new_file.bytes ≡ was.new_file.bytes) × KeepsFile was now
Does (Write bytes) true was now = (now.new_file.bytes ≡ was.new_file.bytes ++ bytes.now) × KeepsFile was now
Does (Write bytes) false was now = KeepsFile was now
Does (SetMode rights) true was now = (now.new_file.bytes ≡ was.new_file.bytes) × KeepsFile was now
Does SyncNewFile true was now = (now.new_file.bytes ≡ was.new_file.bytes) × (now.new_file.is_synced ≡ true) × KeepsFile was now
Does Rename true was now = (now.file.bytes ≡ was.new_file.bytes) × (now.file.is_synced ≡ was.new_file.is_synced) × HasSameAccess now.file.facts was.new_file.facts × (now.has_new_file ≡ false) × (now.agrees ≡ was.agrees)
Does SyncFolder true was now = (now.is_folder_synced ≡ true) × KeepsFile was now × KeepsNewFile was now
Does _ false was now = now ≡ was

-- what is told of a state is so in it, if all that is told is so; and nothing changes
abbrev pub Tells : (DiskState → Type 0) → DiskState → DiskState → Type 0
Tells P was now = IsSame was now × (now.agrees ≡ true → P was)

-- these are the facts of the file there
abbrev pub IsKnown : Place → FileFacts → DiskState → Type 0
IsKnown Path facts state = (facts ≡ state.file.facts) × (facts.size ≡ length state.file.bytes)
IsKnown Beside facts state = facts ≡ state.new_file.facts
IsKnown NewFile facts state = facts ≡ state.new_file.facts

-- the file begins with these bytes, as far as it has so many
abbrev pub IsFront : List ℕ → DiskState → Type 0
IsFront bytes state = bytes ≡ take (length bytes) state.file.bytes
