-- Whether `serde_json` reads a tree, item by item and member by member, and the document of what it reads.
use Rattle.std.proofs.Common.{◌≡◌, ◌&&◌, ℕ, List, Bool, true, Option, Some, None, is_some, option_map, option_and_then, refl, sym, ap, ◌∙◌}
use Rattle.json.specs.Json as json
use Rattle.serde_json.specs.Data.{Data, item, Members, put}
use Rattle.serde_json.specs.Read.{of_json, of_items, of_members}
use Rattle.json_trees.specs.AsRead.{tree_as_read, document_as_read, IsReadAs}
use Rattle.json_trees.specs.Exact.{exact_of}
use Rattle.json_trees.specs.OrderedTree.{in_order}
use Rattle.json_trees.proofs.AsReadLemmas.{stands_for_data}
use Rattle.json_trees.proofs.OrderedTreeLemmas.{ordered_stands, in_order_ordered}

-- whether an option and what is made of it are there
both_there : {A B : Type 0} (o : Option A) (f : A → Option B) (b : Bool) → ((a : A) → is_some (f a) ≡ b) → is_some (option_and_then f o) ≡ (is_some o && b)
both_there None f b then = refl
both_there (Some a) f b then = then a

pub mapped_there : {A B : Type 0} (f : A → B) (o : Option A) → is_some (option_map f o) ≡ is_some o
mapped_there f None = refl
mapped_there f (Some a) = refl

-- whatever was found before
any_found : (ms : json.Members) (a b : Members) → is_some (of_members ms a) ≡ is_some (of_members ms b)
any_found json.no_members a b = refl
any_found (json.member k j ms) a b = both_there (of_json j) (λ d. of_members ms (put k d a)) (is_some (of_members ms b)) (λ d. any_found ms (put k d a) b)
    ∙ sym (both_there (of_json j) (λ d. of_members ms (put k d b)) (is_some (of_members ms b)) (λ d. any_found ms (put k d b) b))

pub item_read : (j : json.Json) (js : json.Items) → is_some (of_items (json.item j js)) ≡ (is_some (of_json j) && is_some (of_items js))
item_read j js = both_there (of_json j) _ _ (λ d. mapped_there (item d) (of_items js))

pub member_read : (k : List ℕ) (j : json.Json) (ms : json.Members) (found : Members) → is_some (of_members (json.member k j ms) found) ≡ (is_some (of_json j) && is_some (of_members ms found))
member_read k j ms found = both_there (of_json j) (λ d. of_members ms (put k d found)) (is_some (of_members ms found)) (λ d. any_found ms (put k d found) found)

-- the tree of a text that `serde_json` reads, put in order, has the document of what it reads
pub read_in_order : (text : List ℕ) (j k : json.Json) → exact_of text ≡ Some j → true ≡ is_some (of_json j) → k ≡ in_order j → IsReadAs text k
read_in_order text j k is read ordered = by (of_json j) refl read
  where
    by : (o : Option Data) → of_json j ≡ o → true ≡ is_some o → IsReadAs text k
    by None e there = absurd (cc)
    by (Some d) e there = (d, ap (option_and_then of_json) is ∙ e, ap document_as_read ordered ∙ ap tree_as_read (sym (ordered_stands (in_order j) (in_order_ordered j))) ∙ stands_for_data j d e)
