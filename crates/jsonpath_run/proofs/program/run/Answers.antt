use Rattle.std.proofs.Common.{[], sym, append-nil}
use Rattle.jsonpath_run.proofs.RefusalLemmas.{none_outside, refused_paths, refused_answer}
use Rattle.jsonpath_run.proofs.program.run.Goals as goal

pub returns-in-Err-clause-refused : goal.returns-in-Err-clause-refused
returns-in-Err-clause-refused g c =
    ([], sym (append-nil _), refused_paths _ _ _ _ _ _ _ c.in-Some.ensures.some c.in-Err.ensures.refused)

pub returns-in-Err-Io-clause-unread_path : goal.returns-in-Err-Io-clause-unread_path
returns-in-Err-Io-clause-unread_path g c = λ h. absurd (none_outside _ _ _ c.in-Some.ensures.some c.in-Ok.ensures.spelled h)

pub returns-in-Err-output_for_command-clause-refused : goal.returns-in-Err-output_for_command-clause-refused
returns-in-Err-output_for_command-clause-refused g c = (
  c.in-Ok-read_input_for_command.input.items,
  c.in-Ok-read_input_for_command.ensures.given,
  refused_answer _ _ _ _ _ _ (record {
    called = c.in-Some.ensures.some;
    spelled = c.in-Ok.ensures.spelled;
  }) c.in-Ok-read_input_for_command.ensures.whole
      (rw c.in-Ok.ensures.texts at c.in-Err-output_for_command.ensures.refused),
)

pub returns-in-Err-output_for_command-clause-unread_path : goal.returns-in-Err-output_for_command-clause-unread_path
returns-in-Err-output_for_command-clause-unread_path g c = λ h. absurd (none_outside _ _ _ c.in-Some.ensures.some c.in-Ok.ensures.spelled h)

pub returns-in-Err-OutOfMemory-clause-unread_path : goal.returns-in-Err-OutOfMemory-clause-unread_path
returns-in-Err-OutOfMemory-clause-unread_path g c = λ h. absurd (none_outside _ _ _ c.in-Some.ensures.some c.in-Ok.ensures.spelled h)

pub returns-in-Ok-write_all-clause-unread_path : goal.returns-in-Ok-write_all-clause-unread_path
returns-in-Ok-write_all-clause-unread_path g c = λ h. absurd (none_outside _ _ _ c.in-Some.ensures.some c.in-Ok.ensures.spelled h)

pub returns-clause-unread_path : goal.returns-clause-unread_path
returns-clause-unread_path g c = λ h. absurd (none_outside _ _ _ c.in-Some.ensures.some c.in-Ok.ensures.spelled h)
