-- A document: JSON whose numbers are as they were read, as a text writes them, or too large to be read.
use Rattle.std.specs.Prelude.{ℕ, suc, max, List, Bool}
use Rattle.serde_json.specs.Data.{Num}

-- what `serde_json` has read, an integer of 64 bits or a float; what a text writes, of any length; or a text whose number is
-- too large to be read
pub data Number : Type 0 where
  read : Num → Number
  written : List ℕ → Number
  refused : List ℕ → Number

mutual
  pub data Document : Type 0 where
    null : Document
    boolean : Bool → Document
    number : Number → Document
    string : List ℕ → Document
    array : Items → Document
    object : Members → Document

  pub data Items : Type 0 where
    no_items : Items
    item : Document → Items → Items

  pub data Members : Type 0 where
    no_members : Members
    member : List ℕ → Document → Members → Members

-- how deep arrays and objects nest
abbrev mutual
  pub depth : Document → ℕ
  depth null = 0
  depth (boolean b) = 0
  depth (number n) = 0
  depth (string s) = 0
  depth (array ds) = suc (items_depth ds)
  depth (object ms) = suc (members_depth ms)

  pub items_depth : Items → ℕ
  items_depth no_items = 0
  items_depth (item d ds) = max (depth d) (items_depth ds)

  pub members_depth : Members → ℕ
  members_depth no_members = 0
  members_depth (member k d ms) = max (depth d) (members_depth ms)
