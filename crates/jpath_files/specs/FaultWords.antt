-- What a fault prints, where no error of the system is a part of it.
use Rattle.std.specs.Prelude.{ℕ, List, ◌++◌, Option, Some, None, codes, decimal}
use Rattle.jpath_files.specs.declared.edit_fault.EditFault.{EditFault}
use Rattle.jpath_files.specs.declared.edit_fault.EditFault.TheVariants.{NotRegular, HardLinks, Locked, Changed, TooLong, OwnerLost}

abbrev pub fault_words : EditFault → Option (List ℕ)
fault_words NotRegular = Some (codes "only a regular file is edited in place")
fault_words (HardLinks links) = Some (codes "the file has " ++ decimal links ++ codes " names (hard links), which an edit would part: --copy writes into it")
fault_words Locked = Some (codes "another program holds a lock on the file")
fault_words Changed = Some (codes "the file was changed while it was edited, so it is left as it is")
fault_words TooLong = Some (codes "the edited text is longer than a file may be (ulimit -f)")
fault_words OwnerLost = Some (codes "a new file can't have the owner, group and mode of this one: --copy writes into it")
fault_words _ = None
