-- Rows and fields, one after the other.
use Rattle.std.proofs.Common.{ℕ, List, [], ◌∷◌, ◌++◌, sym, subst}
use Rattle.std.proofs.lemmas.List.{append-nil, append_assoc}
use Rattle.json.specs.Json.{Json}
use Rattle.jsonpath_nodes.specs.place.Location.{Location}
use Rattle.jpath_texts.specs.declared.output.csv_and_tsv.Separated.{Separated}
use Rattle.jpath_texts.specs.declared.query.Query.{Query}
use Rattle.jpath_core.specs.Rows.{AreFields, no_fields, field_first, IsField, AreRowsAt, no_rows, row_first, IsRowAt}

-- one field more
pub fields_more : (exact : Json) (columns : List Query) (fields : List (List ℕ)) (column : Query) (field : List ℕ) → AreFields exact columns fields → IsField exact column field → AreFields exact (columns ++ column ∷ []) (fields ++ field ∷ [])
fields_more exact [] (_ ∷ _) column field are is = elim are [ ]
fields_more exact [] [] column field no_fields is = field_first is no_fields
fields_more exact (c ∷ columns) [] column field are is = elim are [ ]
fields_more exact (c ∷ columns) (f ∷ fields) column field (field_first one are) is = field_first one (fields_more exact columns fields column field are is)

-- one row more
pub rows_more : (exact : Json) (columns : List Query) (separated : Separated) (ls : List Location) (text : List ℕ) (l : Location) (row : List ℕ) → AreRowsAt exact columns separated ls text
    → IsRowAt exact columns separated l row → AreRowsAt exact columns separated (ls ++ l ∷ []) (text ++ row)
rows_more exact columns separated [] (_ ∷ _) l row are is = elim are [ ]
rows_more exact columns separated [] [] l row no_rows is = subst (AreRowsAt exact columns separated (l ∷ [])) (append-nil row) (row_first is no_rows)
rows_more exact columns separated (k ∷ ls) _ l row (row_first {text = text} {more = more} one are) is =
    subst (AreRowsAt exact columns separated (k ∷ (ls ++ l ∷ []))) (sym (append_assoc text more row)) (row_first one (rows_more exact columns separated ls more l row are is))
