-- Paths one after the other.
use Rattle.std.proofs.Common.{◌≡◌, ℕ, ◌+◌, ◌<◌, List, [], ◌∷◌, ◌++◌, length, take, get_or, Option, Some, None, map, refl, sym, ap, subst, ◌∙◌}
use Rattle.std.specs.Prelude.{filter_map}
use Rattle.std.proofs.lemmas.Grind.{flat_map-append}
use Rattle.std.proofs.lemmas.List.{append-nil, append_assoc, map-append, take_more}
use Rattle.std.proofs.lemmas.List.Elements.{filter_map-append}
use Rattle.json.specs.Json.{Json}
use Rattle.jsonpath_nodes.specs.place.Location.{Location}
use Rattle.jsonpath_select.specs.Meaning.{SelectsAt, SelectsNodes}
use Rattle.json_trees.specs.ExactAt.{exact_at}
use Rattle.json_trees.specs.ExactDocument.{document_at, exact_document, name_bytes}
use Rattle.jpath_texts.specs.declared.query.Query.{Query}
use Rattle.jpath_texts.specs.declared.output.match_line.Line.{Line}
use Rattle.jpath_core.specs.Matches.{SelectInTurn, nothing, path_first, lines_text, match_text_if}
use Rattle.jpath_core.specs.Nodes.{Node, location_of}
use Rattle.jpath_core.proofs.LineLemmas.{locations_of}

-- one path more
pub turn_more : (exact : Json) (queries : List Query) (locations more : List Location) (query : Query) → SelectInTurn exact queries locations
    → SelectsAt query.path (exact_document exact) more → SelectInTurn exact (queries ++ query ∷ []) (locations ++ more)
turn_more exact [] (_ ∷ _) more query is selects = elim is [ ]
turn_more exact [] [] more query nothing selects = subst (SelectInTurn exact (query ∷ [])) (append-nil more) (path_first selects nothing)
turn_more exact (q ∷ queries) _ more query (path_first {first = first} {others = others} is rest) selects =
    subst (SelectInTurn exact (q ∷ (queries ++ query ∷ []))) (sym (append_assoc first others more)) (path_first is (turn_more exact queries others more query rest selects))

pub nodes_selected : (exact : Json) (query : Query) (nodes : List Node) → SelectsNodes name_bytes document_at query.path (exact_document exact) nodes → SelectsAt query.path (exact_document exact) (map location_of nodes)
nodes_selected exact query nodes found = record { path = found.path; spelled = found.spelled; holds = locations_of (exact_document exact) _ nodes found.holds }

-- a location at which nothing stands adds nothing
pub none_more : (exact : Json) (ls : List Location) (l : Location) → exact_at exact l ≡ None → filter_map (exact_at exact) (ls ++ l ∷ []) ≡ filter_map (exact_at exact) ls
none_more exact ls l absent = filter_map-append (exact_at exact) ls (l ∷ []) ∙ ap (λ js. filter_map (exact_at exact) ls ++ js) (rw absent refl) ∙ append-nil (filter_map (exact_at exact) ls)

-- a location at which a value stands adds it
pub some_more : (exact : Json) (ls : List Location) (l : Location) (j : Json) → exact_at exact l ≡ Some j → filter_map (exact_at exact) (ls ++ l ∷ []) ≡ filter_map (exact_at exact) ls ++ j ∷ []
some_more exact ls l j there = filter_map-append (exact_at exact) ls (l ∷ []) ∙ ap (λ js. filter_map (exact_at exact) ls ++ js) (rw there refl)

-- a location behind others adds the lines of what stands there, if anything does
pub lines_more : (line : Line) (exact : Json) (ls : List Location) (l : Location) (o : Option Json) → exact_at exact l ≡ o → lines_text line exact (ls ++ l ∷ []) ≡ lines_text line exact ls ++ match_text_if line l o
lines_more line exact ls l o there = flat_map-append (λ l. match_text_if line l (exact_at exact l)) ls (l ∷ []) ∙ ap (λ t. lines_text line exact ls ++ t) (append-nil (match_text_if line l (exact_at exact l)) ∙ ap (match_text_if line l) there)

-- the locations of one node more
pub located_more : (nodes : List Node) (i : ℕ) (node : Node) → i < length nodes → node ≡ get_or nodes i node → map location_of (take (i + 1) nodes) ≡ map location_of (take i nodes) ++ location_of node ∷ []
located_more nodes i node less is = ap (map location_of) (take_more nodes i node less ∙ ap (λ n. take i nodes ++ n ∷ []) (sym is)) ∙ map-append location_of (take i nodes) (node ∷ [])
