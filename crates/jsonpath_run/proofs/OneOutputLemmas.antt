-- Words and an input have one output at most.
use Rattle.std.proofs.Common.{◌≡◌, ℕ, List, [], ◌∷◌, ◌++◌, map, get_or, nat_eq, if◌then◌else◌, Some, codes, refl, sym, ap, ◌∙◌, subst}
use Rattle.serde_json.specs.Data.{Data}
use Rattle.jsonpath_nodes.specs.document.Document.{Document}
use Rattle.jsonpath_nodes.specs.document.OfData.{document_of, DocumentsKeepDataApart}
use Rattle.jsonpath_paths.specs.Spelling.{Spells}
use Rattle.jsonpath_paths.specs.tree.Tree.{Path}
use Rattle.jsonpath_select.specs.answer.AnswerText.{list_text, document_text}
use Rattle.jsonpath_select.specs.Meaning.{Selects, answer, sel}
use Rattle.jsonpath_nodes.specs.place.Location.{Location}
use Rattle.jsonpath_nodes.specs.place.Order.{once_in_order}
use Rattle.jsonpath_nodes.specs.update.Topmost.{nulled, taken}
use Rattle.jsonpath_select.specs.Targets.{targets, IsDeleted, IsRemoved}
use Rattle.jsonpath_lib.specs.update.Masked.{AreSelected, IsMasked}
use Rattle.jsonpath_run.specs.declared.words.Command.{Command}
use Rattle.jsonpath_run.specs.declared.words.Command.TheVariants.{Select, Delete, Remove, Check, Mask}
use Rattle.jsonpath_run.specs.Words.{word_of}
use Rattle.jsonpath_run.specs.Output.{SelectsText, IsChange, ChangesText, IsAnswer, IsOutput}
use Rattle.jsonpath_run.proofs.RefusalLemmas.{same_paths, one_document, same_text}

-- the command whose word begins with this byte
abbrev command_at : ℕ → Command
command_at byte =
    if nat_eq byte 115 then Select else (if nat_eq byte 100 then Delete else (if nat_eq byte 114 then Remove else (if nat_eq byte 99 then Check else Mask)))

command_of_word : (c : Command) → command_at (get_or (word_of c) 0 0) ≡ c
command_of_word Select = refl
command_of_word Delete = refl
command_of_word Remove = refl
command_of_word Check = refl
command_of_word Mask = refl

one_command : (c d : Command) (p q : List (List ℕ)) → word_of c ∷ p ≡ word_of d ∷ q → c ≡ d
one_command c d p q h = sym (command_of_word c) ∙ ap (λ xs. command_at (get_or (get_or xs 0 []) 0 0)) h ∙ command_of_word d

-- lists of data with the same documents are the same
pub same_data : DocumentsKeepDataApart → (ds es : List Data) → map document_of ds ≡ map document_of es → ds ≡ es
same_data apart [] [] h = refl
same_data apart [] (e ∷ es) h = cc
same_data apart (d ∷ ds) [] h = cc
same_data apart (d ∷ ds) (e ∷ es) h =
    let first : d ≡ e = apart d e (cc) in
    let rest : ds ≡ es = same_data apart ds es (cc) in cc

module _ (one_tree_per_text : (text : List ℕ) (p q : Path) → Spells text p → Spells text q → p ≡ q) (apart : DocumentsKeepDataApart) where
  pub one_selection_per_text : (path : List ℕ) (document : Document) (a b : List Document) → Selects path document a → Selects path document b → a ≡ b
  one_selection_per_text path document a b h k =
      let p : h.path ≡ k.path = one_tree_per_text path h.path k.path h.spelled k.spelled in
      h.holds ∙ ap (λ t. answer path document t) p ∙ sym k.holds

  one_text : (path input a b : List ℕ) → SelectsText path input a → SelectsText path input b → a ≡ b
  one_text path input a b h k =
      let d : k.document ≡ h.document = one_document input k.document h.document k.read h.read in
      let v : h.values ≡ k.values = same_data apart h.values k.values
      (one_selection_per_text path (document_of h.document) (map document_of h.values) (map document_of k.values) h.selected (subst (λ x. Selects path (document_of x) (map document_of k.values)) d k.selected)) in
      let e : Some a ≡ Some b = sym h.written ∙ ap list_text v ∙ k.written in cc

  one_deleted : (path : List ℕ) (before a b : Document) → IsDeleted path before a → IsDeleted path before b → a ≡ b
  one_deleted path before a b h k =
      let p : h.path ≡ k.path = one_tree_per_text path h.path k.path h.spelled k.spelled in
      h.holds ∙ ap (λ t. nulled (targets path before t) before) p ∙ sym k.holds

  one_removed : (path : List ℕ) (before a b : Document) → IsRemoved path before a → IsRemoved path before b → a ≡ b
  one_removed path before a b h k =
      let p : h.path ≡ k.path = one_tree_per_text path h.path k.path h.spelled k.spelled in
      h.holds ∙ ap (λ t. taken (targets path before t) before) p ∙ sym k.holds

  one_list : (paths : List (List ℕ)) (doc : Document) (ls ms : List Location) → AreSelected paths doc ls → AreSelected paths doc ms → ls ≡ ms
  one_list [] doc ls ms h k = h ∙ sym k
  one_list (path ∷ paths) doc ls ms h k =
      let p : h.0 ≡ k.0 = one_tree_per_text path h.0 k.0 h.2 k.2 in
      let r : h.1 ≡ k.1 = one_list paths doc h.1 k.1 h.3 k.3 in
      h.4 ∙ ap (λ t. sel path doc t ++ h.1) p ∙ ap (λ rest. sel path doc k.0 ++ rest) r ∙ sym k.4

  one_masked : (paths : List (List ℕ)) (before a b : Document) → IsMasked paths before a → IsMasked paths before b → a ≡ b
  one_masked paths before a b h k =
      let all : h.targets.all ≡ k.targets.all = one_list paths before h.targets.all k.targets.all h.targets.selected k.targets.selected in
      let ls : h.locations ≡ k.locations = h.targets.are ∙ ap once_in_order all ∙ sym k.targets.are in
      h.changed ∙ ap (λ ls. nulled ls before) ls ∙ sym k.changed

  pub one_change : (c : Command) (paths : List (List ℕ)) (before a b : Document) → IsChange c paths before a → IsChange c paths before b → a ≡ b
  one_change Select paths before a b h k = absurd h
  one_change Delete paths before a b h k = one_deleted h.0 before a b h.2 (subst (λ t. IsDeleted t before b) (same_text h.0 k.0 (sym h.1 ∙ k.1)) k.2)
  one_change Remove paths before a b h k = one_removed h.0 before a b h.2 (subst (λ t. IsRemoved t before b) (same_text h.0 k.0 (sym h.1 ∙ k.1)) k.2)
  one_change Check paths before a b h k = absurd h
  one_change Mask paths before a b h k = one_masked paths before a b h k

  one_changed_text : (c : Command) (paths : List (List ℕ)) (input a b : List ℕ) → ChangesText c paths input a → ChangesText c paths input b → a ≡ b
  one_changed_text c paths input a b h k =
      let d : k.before ≡ h.before = one_document input k.before h.before k.read h.read in
      let v : h.after ≡ k.after = apart h.after k.after
      (one_change c paths (document_of h.before) (document_of h.after) (document_of k.after) h.changed (subst (λ x. IsChange c paths (document_of x) (document_of k.after)) d k.changed)) in
      let e : Some a ≡ Some b = sym h.written ∙ ap document_text v ∙ k.written in cc

  one_line : (c : Command) (paths : List (List ℕ)) (input a b : List ℕ) → IsAnswer c paths input a → IsAnswer c paths input b → a ≡ b
  one_line Select paths input a b h k = one_text h.0 input a b h.2 (subst (λ t. SelectsText t input b) (same_text h.0 k.0 (sym h.1 ∙ k.1)) k.2)
  one_line Delete paths input a b h k = one_changed_text Delete paths input a b h k
  one_line Remove paths input a b h k = one_changed_text Remove paths input a b h k
  one_line Check paths input a b h k = h ∙ sym k
  one_line Mask paths input a b h k = one_changed_text Mask paths input a b h k

  pub one_output : (words : List (List ℕ)) (input a b : List ℕ) → IsOutput words input a → IsOutput words input b → a ≡ b
  one_output words input a b h k =
      let c : k.command ≡ h.command = one_command k.command h.command k.paths h.paths (sym k.sound.called.said ∙ h.sound.called.said) in
      let p : k.paths ≡ h.paths = same_paths words h.command k.command h.paths k.paths h.sound.called k.sound.called in
      let l : h.line ≡ k.line = one_line h.command h.paths input h.line k.line h.answered (subst (λ ps. IsAnswer h.command ps input k.line) p (subst (λ x. IsAnswer x k.paths input k.line) c k.answered)) in
      h.ended ∙ ap (λ x. x ++ codes "\n") l ∙ sym k.ended
