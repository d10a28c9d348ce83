use Rattle.std.proofs.Common.{◌≡◌, ◌+◌, ◌*◌, refl, sym, ap, ◌∙◌, true, false}
use denote.Enum.Declared.{tag_of}
use Rattle.json_recognizer.specs.contracts.machine.NumberPart.{the_type as numbers}
use Rattle.json_recognizer.specs.contracts.machine.WordPart.{the_type as words}
use Rattle.json_recognizer.specs.contracts.machine.TextPart.{the_type as texts}
use Rattle.json_recognizer.specs.declared.machine.NumberPart.{NumberPart}
use Rattle.json_recognizer.specs.declared.machine.NumberPart.TheVariants.{AfterMinus, AfterZero, InWhole, AfterDot, InFraction, AfterE, AfterSign, InExponent}
use Rattle.json_recognizer.specs.declared.machine.WordPart.{WordPart}
use Rattle.json_recognizer.specs.declared.machine.WordPart.TheVariants.{AfterT, AfterTr, AfterTru, AfterF, AfterFa, AfterFal, AfterFals, AfterN, AfterNu, AfterNul}
use Rattle.json_recognizer.specs.declared.machine.TextPart.{TextPart}
use Rattle.json_recognizer.specs.declared.machine.TextPart.TheVariants.{InChars, AfterBackslash, Unit4, UnitD, Unit3, Unit2, Unit1, High2, High1, HighEnd, HighU, LowD, LowC, Utf1, Utf2, Utf3, UtfE0, UtfEd, UtfF0, UtfF4}
use Rattle.json_recognizer.specs.declared.machine.Mode.TheVariants.{InNumber, InWord, InText}
use Rattle.json_recognizer.specs.plan.Rows.{mode_at}
use Rattle.json_recognizer.proofs.table.row_of.Goals as goal

number_row : (p : NumberPart) → mode_at (54 + tag_of numbers p) ≡ InNumber p
number_row AfterMinus = refl
number_row AfterZero = refl
number_row InWhole = refl
number_row AfterDot = refl
number_row InFraction = refl
number_row AfterE = refl
number_row AfterSign = refl
number_row InExponent = refl

word_row : (p : WordPart) → mode_at (62 + tag_of words p) ≡ InWord p
word_row AfterT = refl
word_row AfterTr = refl
word_row AfterTru = refl
word_row AfterF = refl
word_row AfterFa = refl
word_row AfterFal = refl
word_row AfterFals = refl
word_row AfterN = refl
word_row AfterNu = refl
word_row AfterNul = refl

text_row : (p : TextPart) → (mode_at (72 + 2 * tag_of texts p) ≡ InText p false) × (mode_at (73 + 2 * tag_of texts p) ≡ InText p true)
text_row InChars = (refl, refl)
text_row AfterBackslash = (refl, refl)
text_row Unit4 = (refl, refl)
text_row UnitD = (refl, refl)
text_row Unit3 = (refl, refl)
text_row Unit2 = (refl, refl)
text_row Unit1 = (refl, refl)
text_row High2 = (refl, refl)
text_row High1 = (refl, refl)
text_row HighEnd = (refl, refl)
text_row HighU = (refl, refl)
text_row LowD = (refl, refl)
text_row LowC = (refl, refl)
text_row Utf1 = (refl, refl)
text_row Utf2 = (refl, refl)
text_row Utf3 = (refl, refl)
text_row UtfE0 = (refl, refl)
text_row UtfEd = (refl, refl)
text_row UtfF0 = (refl, refl)
text_row UtfF4 = (refl, refl)

pub returns-in-InNumber-clause-mode : goal.returns-in-InNumber-clause-mode
returns-in-InNumber-clause-mode c = number_row c.in-InNumber.part ∙ sym c.in-InNumber.is

pub returns-in-InWord-clause-mode : goal.returns-in-InWord-clause-mode
returns-in-InWord-clause-mode c = word_row c.in-InWord.part ∙ sym c.in-InWord.is

pub returns-then-is_name-clause-mode : goal.returns-then-is_name-clause-mode
returns-then-is_name-clause-mode c = (text_row c.in-InText.part).1 ∙ sym (c.in-InText.is ∙ ap (InText c.in-InText.part) c.if-is_name.true)

pub returns-else-is_name-clause-mode : goal.returns-else-is_name-clause-mode
returns-else-is_name-clause-mode c = (text_row c.in-InText.part).0 ∙ sym (c.in-InText.is ∙ ap (InText c.in-InText.part) c.if-is_name.false)
