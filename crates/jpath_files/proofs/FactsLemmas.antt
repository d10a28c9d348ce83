-- Facts that compare equal are the same.
use Rattle.std.proofs.Common.{◌≡◌, ◌&&◌, ℤ, Bool, true, false, refl, eqb, int_eq}
use Rattle.std.proofs.Math.Bool.{beq}
use Rattle.std.specs.Bool.{Decides}
use Rattle.std.proofs.lemmas.Bool.Decides.{Decides-and, Decides-eqb, Decides-int_eq}
use Rattle.jpath_files.specs.declared.file_facts.FileFacts.{FileFacts}

Decides-beq : (a b : Bool) → Decides (beq a b) (a ≡ b)
Decides-beq true true = (λ e. refl, λ e. refl)
Decides-beq false false = (λ e. refl, λ e. refl)
Decides-beq true false = (λ e. cc, λ e. cc)
Decides-beq false true = (λ e. cc, λ e. cc)

Decides-times : (s t : ℤ × ℤ) → Decides (int_eq s.0 t.0 && int_eq s.1 t.1) ((s.0 ≡ t.0) × (s.1 ≡ t.1))
Decides-times s t = Decides-and _ _ (Decides-int_eq s.0 t.0) (Decides-int_eq s.1 t.1)

-- what `==` answers
abbrev pub same_facts : FileFacts → FileFacts → Bool
same_facts a b =
    beq a.is_regular b.is_regular && (eqb a.links b.links && (eqb a.device b.device && (eqb a.inode b.inode && (eqb a.size b.size &&
    ((int_eq a.modified.0 b.modified.0 && int_eq a.modified.1 b.modified.1) && ((int_eq a.changed.0 b.changed.0 && int_eq a.changed.1 b.changed.1) &&
    (eqb a.rights b.rights && (eqb a.owner b.owner && eqb a.group b.group))))))))

pub equal_facts : (a b : FileFacts) → same_facts a b ≡ true → a ≡ b
equal_facts a b e =
    let (regular, (links, (device, (inode, (size, (modified, (changed, (rights, (owner, group))))))))) =
    (Decides-and _ _ (Decides-beq a.is_regular b.is_regular) (Decides-and _ _ (Decides-eqb a.links b.links) (Decides-and _ _ (Decides-eqb a.device b.device)
    (Decides-and _ _ (Decides-eqb a.inode b.inode) (Decides-and _ _ (Decides-eqb a.size b.size) (Decides-and _ _ (Decides-times a.modified b.modified)
    (Decides-and _ _ (Decides-times a.changed b.changed) (Decides-and _ _ (Decides-eqb a.rights b.rights) (Decides-and _ _ (Decides-eqb a.owner b.owner)
    (Decides-eqb a.group b.group)))))))))).0 e in
    λ i. record {
      is_regular = regular i;
      links = links i;
      device = device i;
      inode = inode i;
      size = size i;
      modified = (modified.0 i, modified.1 i);
      changed = (changed.0 i, changed.1 i);
      rights = rights i;
      owner = owner i;
      group = group i;
    }
