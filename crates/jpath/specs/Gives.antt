-- What a document of a stream gives.
use Rattle.std.specs.Prelude.{◌≡◌, ◌<◌, ℕ, List, [], Bool, true}
use Rattle.json_recognizer.specs.declared.buffer.piece.Kind.{Kind}
use Rattle.json_recognizer.specs.declared.buffer.piece.Kind.TheVariants.{Refused}
use Rattle.jpath_texts.specs.declared.stream.visit_documents.Taken.{Taken}
use Rattle.jpath.specs.declared.run.document_visitor.Stop.{Stop}
use Rattle.jpath.specs.declared.run.document_visitor.Stop.TheVariants.{Output, Found, Document, OutOfMemory}

-- For what is refused nothing is written, it has no match, and the status says so. Nothing more is asked for only behind a match.
abbrev pub Gives : Bool → Kind → Taken → List ℕ → Type 0
Gives has_refused kind taken text = (kind ≡ Refused → (text ≡ []) × (taken.count ≡ 0) × (has_refused ≡ true)) × (taken.is_enough ≡ true → 0 < taken.count)

-- why the documents are visited no further: the output failed, a document was refused, or memory was
abbrev pub IsWhyStopped : Bool → Bool → Stop → Type 0
IsWhyStopped has_failed has_refused Output = has_failed ≡ true
IsWhyStopped has_failed has_refused Found = ⊥
IsWhyStopped has_failed has_refused Document = has_refused ≡ true
IsWhyStopped has_failed has_refused OutOfMemory = Unit {0}
