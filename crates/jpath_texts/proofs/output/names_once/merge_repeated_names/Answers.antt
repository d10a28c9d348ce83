use Rattle.std.proofs.Common.{[], rules}
use Rattle.jpath_texts.proofs.OnceLemmas.{put_entries}
use Rattle.jpath_texts.proofs.output.names_once.merge_repeated_names.Goals as goal

pub returns : goal.returns
returns c = let a = put_entries [] c.args.members.items in search rules
