-- A file that is edited in place, and the new file beside it.
use Rattle.std.specs.Prelude.{◌≡◌, ◌≢◌, ◌⊎◌, ◌≤◌, ℕ, ◌-◌, ◌+◌, ◌%◌, List, [], ◌++◌, length, take, drop, replicate, Bool, true}
use Rattle.jpath_files.specs.declared.file_facts.FileFacts.{FileFacts}
use Rattle.jpath_files.specs.declared.edit_fault.EditFault.{EditFault}
use Rattle.jpath_files.specs.declared.edit_fault.EditFault.TheVariants.{Changed, TooLong, OwnerLost, Torn, Unsynced, Failed}

-- a file: its bytes, what the system knows of it, and whether both are on the disk
pub record FileState : Type 0 where
  pub bytes : List ℕ
  pub facts : FileFacts
  pub is_synced : Bool

-- The file, and the new one where there is one; whether the names in the folder are on the disk; whether the system refused
-- to remove the new file, and how often to write into the file; whether what calls told of the two is so.
pub record DiskState : Type 0 where
  pub file : FileState
  pub new_file : FileState
  pub has_new_file : Bool
  pub is_folder_synced : Bool
  pub is_stuck : Bool
  pub refusals : ℕ
  pub agrees : Bool

abbrev pub HasSameAccess : FileFacts → FileFacts → Type 0
HasSameAccess a b = (a.owner ≡ b.owner) × (a.group ≡ b.group) × (a.rights ≡ b.rights)

-- the same owner and group, and the same mode but for the bits that set a user or a group
abbrev pub KeepsAccess : FileFacts → FileFacts → Type 0
KeepsAccess was now = (now.owner ≡ was.owner) × (now.group ≡ was.group) × (now.rights % 0o2000 ≡ was.rights % 0o2000)

abbrev pub KeepsNewFile : DiskState → DiskState → Type 0
KeepsNewFile was now = (now.new_file ≡ was.new_file) × (now.has_new_file ≡ was.has_new_file) × (now.is_stuck ≡ was.is_stuck)

-- nothing changes
abbrev pub IsSame : DiskState → DiskState → Type 0
IsSame was now = (now.file ≡ was.file) × KeepsNewFile was now × (now.refusals ≡ was.refusals) × (now.agrees ≡ true → was.agrees ≡ true)

-- nothing of the file changes
abbrev pub IsApart : DiskState → DiskState → Type 0
IsApart was now = (now.file ≡ was.file) × (now.agrees ≡ true → was.agrees ≡ true)

-- nothing changes beside the file, nor who may use it
abbrev pub IsWithin : DiskState → DiskState → Type 0
IsWithin was now = KeepsAccess was.file.facts now.file.facts × (now.has_new_file ≡ was.has_new_file) × (now.is_stuck ≡ was.is_stuck)

-- the first n bytes, with zeros where there are fewer
abbrev pub resized : ℕ → List ℕ → List ℕ
resized n content = take n (content ++ replicate (n - length content) 0)

-- the content with these bytes written at this position
abbrev pub overwritten : ℕ → List ℕ → List ℕ → List ℕ
overwritten at [] content = content
overwritten at bytes content = resized at content ++ (bytes ++ drop (at + length bytes) content)

-- The file has these bytes, on the disk, and was as it was found.
pub record IsPut (bytes : List ℕ) (found : FileFacts) (was now : FileState) : Type 0 where
  pub content : now.bytes ≡ bytes
  pub synced : now.is_synced ≡ true
  pub unchanged : was.facts ≡ found

-- why a file has other bytes at an error: its own could not be put back either, or the new ones are in their place
abbrev HasChanged : EditFault → List ℕ → DiskState → DiskState → Type 0
HasChanged (Torn error) bytes was now = was.refusals + 2 ≤ now.refusals
HasChanged (Unsynced error) bytes was now = now.file.bytes ≡ bytes
HasChanged _ bytes was now = ⊥

-- at an error the file has the bytes that it had, but for two faults
abbrev pub KeepsBytes : EditFault → List ℕ → DiskState → DiskState → Type 0
KeepsBytes fault bytes was now = (now.file.bytes ≡ was.file.bytes) ⊎ HasChanged fault bytes was now

-- Why a file that was found so is not edited: it is said to be changed only if it was.
abbrev pub IsWhy : EditFault → FileFacts → DiskState → Type 0
IsWhy Changed found was = was.file.facts ≢ found
IsWhy TooLong found was = Unit {0}
IsWhy OwnerLost found was = Unit {0}
IsWhy (Torn error) found was = Unit {0}
IsWhy (Unsynced error) found was = Unit {0}
IsWhy (Failed error) found was = Unit {0}
IsWhy _ found was = ⊥
