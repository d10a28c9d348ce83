-- A path that is refused, or an answer, after the JSON text was read.
use Rattle.std.proofs.Common.{ℕ, List, String, inr, Global}
use Rattle.serde_json.specs.Data.{Data}
use Rattle.jsonpath_nodes.specs.document.OfData.{document_of}
use Rattle.jsonpath_select.specs.JsonPathErrors.{IsPathRefused}
use Rattle.jsonpath_select.specs.Meaning.{Selects}
use Rattle.jsonpath_select.specs.answer.AnswerText.{IsTextOf}
use Rattle.jsonpath_select.specs.answer.Given.{IsTextRefusedOf, IsTypedRefusedOf}
use Rattle.jsonpath_select.specs.declared.error.JsonPathError.{JsonPathError}
use Rattle.jsonpath_select.specs.declared.error.JsonPathError.TheVariants.{EmptyPath, EmptyValue, Path, Serde, OutOfMemory}
use Rattle.jsonpath_lib.specs.functions.Answers.{IsRefusedAfter, IsTextRefusal, IsTypedRefusal}

pub refused_after : (json text : List ℕ) (serde : String Global → Type 0) (document : Data) (error : JsonPathError) → IsTextOf json document → IsPathRefused text error → IsRefusedAfter json text serde error
refused_after json text serde document EmptyPath read refused = refused
refused_after json text serde document EmptyValue read refused = refused
refused_after json text serde document (Path message) read refused = ((document, read), refused)
refused_after json text serde document (Serde message) read refused = absurd refused
refused_after json text serde document OutOfMemory read refused = tt

pub text_refused : (json text : List ℕ) (document : Data) (error : JsonPathError) → IsTextOf json document → IsTextRefusedOf (Selects text (document_of document)) error → IsTextRefusal json text error
text_refused json text document EmptyPath read refused = refused
text_refused json text document EmptyValue read refused = refused
text_refused json text document (Path message) read refused = absurd refused
text_refused json text document (Serde message) read refused = inr (refused.0, record { document = document; read = read; selected = refused.1 }, refused.2, refused.3)
text_refused json text document OutOfMemory read refused = tt

pub typed_refused : (json text : List ℕ) (document : Data) (error : JsonPathError) → IsTextOf json document → IsTypedRefusedOf (Selects text (document_of document)) error → IsTypedRefusal json text error
typed_refused json text document EmptyPath read refused = refused
typed_refused json text document EmptyValue read refused = refused
typed_refused json text document (Path message) read refused = absurd refused
typed_refused json text document (Serde message) read refused = inr (refused.0, record { document = document; read = read; selected = refused.1 }, refused.2)
typed_refused json text document OutOfMemory read refused = tt
