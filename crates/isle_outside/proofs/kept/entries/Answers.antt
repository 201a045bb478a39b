use Rattle.std.proofs.Common.{option_and_then, ap, ◌∙◌}
use Rattle.isle_outside.specs.Directory.{inside_folder, plain}
use Rattle.isle_outside.proofs.PlaceLaws.{more_entries, pushed_entry, same_entries}
use Rattle.isle_outside.proofs.kept.entries.Goals as goal
use Rattle.isle_outside.proofs.kept.entries.Goals.{in-Some+in_ok-from_str+in_ok-push, in_default}

pub loop-file-preserved : goal.loop-file-preserved
loop-file-preserved c =
    let name = ap (λ text. option_and_then plain (inside_folder c.args.folder.now text)) c.as_str.ensures.value in
    more_entries c.args.files.now c.loop-file.file-index c.file-item.result c.args.folder.now _ _ c.loop-file-test.true c.file-item.is c.loop-file.invariant
    (elim c.match-entry.branch [
      | in-Some+in_ok-from_str+in_ok-push w ↦ pushed_entry _ _ _ _ _ (ap (λ v. v.items) w.names-is ∙ w.in_ok-push.ensures.items) w.in_ok-from_str.ensures.ok (w.in-Some.ensures ∙ name)
      | in_default w ↦ same_entries _ _ _ (ap (λ v. v.items) w.names-is) (w.in_default.ensures ∙ name)
    ])
