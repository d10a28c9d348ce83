use Rattle.std.proofs.Common.{◌≡◌, map, take, string_bytes}
use Rattle.jpath_words.specs.Words.{path_of}
use Rattle.jpath_words.proofs.arguments.filled_words.edits_with_paths.Given as goal

abbrev pub invariant-loop-edit : goal.invariant-loop-edit
invariant-loop-edit l = map path_of l.made.items ≡ map (λ f. string_bytes f.path) (take l.edit-index l.edits)
