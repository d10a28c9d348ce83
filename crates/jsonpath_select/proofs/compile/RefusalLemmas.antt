-- The error that stands for a refused path is a refusal of its text.
use Rattle.std.proofs.Common.{◌≢◌, refl, ℕ, List, sym, subst}
use Rattle.jsonpath_paths.specs.RefusedAt.{RefusedAt}
use Rattle.jsonpath_paths.specs.Spelling.{IsInGrammar}
use Rattle.jsonpath_paths.specs.declared.token.tokens.TokenError.{TokenError}
use Rattle.jsonpath_paths.specs.declared.token.tokens.TokenError.TheVariants as token
use Rattle.jsonpath_select.specs.JsonPathErrors.{IsPathErrorOf, IsPathErrorWith, IsPlaceMessage, IsPathRefused}
use Rattle.jsonpath_select.specs.compile.Faults.{carets_to, HasCarets, IsFaultOf, IsParseRefused}
use Rattle.jsonpath_select.specs.declared.compile.parser.ParseFault.{ParseFault}
use Rattle.jsonpath_select.specs.declared.compile.parser.ParseFault.TheVariants as parse
use Rattle.jsonpath_select.specs.declared.error.JsonPathError.{JsonPathError}
use Rattle.jsonpath_select.specs.declared.error.JsonPathError.TheVariants.{EmptyPath, EmptyValue, Path, Serde, OutOfMemory}

refused_with : (text message : List ℕ) (error : JsonPathError) → (¬ IsInGrammar text) → IsPlaceMessage text message → IsPathErrorWith message error → IsPathRefused text error
refused_with text message EmptyPath outside told h = h
refused_with text message EmptyValue outside told h = h
refused_with text message (Path m) outside told h = (outside, subst (λ t. IsPlaceMessage text t) (sym h) told)
refused_with text message (Serde m) outside told h = h
refused_with text message OutOfMemory outside told h = tt

pub refused_path : (text : List ℕ) (t : TokenError) (error : JsonPathError)
    → (t ≢ token.OutOfMemory → ¬ IsInGrammar text) → (t ≢ token.OutOfMemory → RefusedAt text t) → IsPathErrorOf t error → IsPathRefused text error
refused_path text token.Eof error outside at h = refused_with text _ error (outside (λ e. cc)) (token.Eof, at (λ e. cc), refl) h
refused_path text (token.Position n) error outside at h = refused_with text _ error (outside (λ e. cc)) (token.Position n, at (λ e. cc), refl) h
refused_path text token.OutOfMemory error outside at h = subst (λ e. IsPathRefused text e) (sym h) tt

fault_with : (text : List ℕ) (t : TokenError) (refusal : ParseFault) → (¬ IsInGrammar text) → RefusedAt text t → HasCarets text (carets_to text t) refusal → IsParseRefused text refusal
fault_with text t (parse.Text message) outside at h = (outside, (t, at, h))
fault_with text t parse.OutOfMemory outside at h = tt

pub refused_fault : (text : List ℕ) (t : TokenError) (refusal : ParseFault)
    → (t ≢ token.OutOfMemory → ¬ IsInGrammar text) → (t ≢ token.OutOfMemory → RefusedAt text t) → IsFaultOf text t refusal → IsParseRefused text refusal
refused_fault text token.Eof refusal outside at h = fault_with text token.Eof refusal (outside (λ e. cc)) (at (λ e. cc)) h
refused_fault text (token.Position n) refusal outside at h = fault_with text (token.Position n) refusal (outside (λ e. cc)) (at (λ e. cc)) h
refused_fault text token.OutOfMemory refusal outside at h = subst (λ f. IsParseRefused text f) (sym h) tt
