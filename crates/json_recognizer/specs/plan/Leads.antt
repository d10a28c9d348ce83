-- Where bytes that are passed over together lead.
use Rattle.std.specs.Prelude.{◌≡◌, ℕ, List, map, Bool}
use Rattle.json_recognizer.specs.Classes.{class_of}
use Rattle.json_recognizer.specs.Machine.{goes, after_all}
use Rattle.json_recognizer.specs.declared.machine.Mode.{Mode}
use Rattle.json_recognizer.specs.declared.machine.Mode.TheVariants.{InText}
use Rattle.json_recognizer.specs.declared.machine.TextPart.{TextPart}
use Rattle.json_recognizer.specs.declared.machine.TextPart.TheVariants.{InChars}

-- the bytes lead from one mode to another, whatever is open
abbrev pub Leads : Mode → List ℕ → Mode → Type 0
Leads m₀ text m = (st : List Bool) (r : ℕ) → after_all m₀ st r (map class_of text) ≡ goes m st r

-- within a text, from one part to another
abbrev pub LeadsIn : TextPart → List ℕ → TextPart → Type 0
LeadsIn p text q = (is_name : Bool) → Leads (InText p is_name) text (InText q is_name)

-- they are whole characters and escapes of a text
abbrev pub AreChars : List ℕ → Type 0
AreChars text = LeadsIn InChars text InChars
