use Rattle.std.proofs.Common.{position, ap, sym, ◌∙◌}
use Rattle.isle_outside.specs.Memory.{files_of}
use Rattle.isle_outside.proofs.PlaceLaws.{has_name, new_file, same_file}
use Rattle.isle_outside.proofs.kept.put_file.Goals as goal

pub returns-in-Some-clause-ok : goal.returns-in-Some-clause-ok
returns-in-Some-clause-ok c =
    same_file c.args.files.now.items c.args.name.now c.args.bytes.now c.in-Some.place c.index_mut.result.now c.in_ok-bytes.bytes
    (sym (c.in-Some.ensures ∙ ap (position (has_name c.args.name.now)) c.deref.ensures.value)) c.index_mut.ensures.value c.in_ok-bytes.ensures.items

pub returns-in_ok-push-in-None-clause-ok : goal.returns-in_ok-push-in-None-clause-ok
returns-in_ok-push-in-None-clause-ok c =
    ap files_of c.in_ok-push-in-None.ensures.items
    ∙ new_file c.args.files.now.items c.args.name.now c.args.bytes.now c.in_ok-from_str-in-None.field-0 c.in_ok-bytes.bytes
    (sym (c.in-None.ensures ∙ ap (position (has_name c.args.name.now)) c.deref.ensures.value)) c.in_ok-from_str-in-None.ensures.ok c.in_ok-bytes.ensures.items
