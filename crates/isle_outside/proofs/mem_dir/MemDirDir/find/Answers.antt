use Rattle.std.proofs.Common.{position, ap, refl, sym, ◌∙◌}
use Rattle.isle_outside.proofs.PlaceLaws.{found_file, found_folder, has_name, lies_below, no_folder, no_name}
use Rattle.isle_outside.proofs.mem_dir.MemDirDir.find.Goals as goal

pub returns-in-Some-clause-found : goal.returns-in-Some-clause-found
returns-in-Some-clause-found c =
    let name = c.args.name.now in
    rw (← c.fails_now.ensures.files) (found_file c.fails_now.new.self.files.items name c.in-Some.file (sym (c.in-Some.ensures ∙ ap (position (has_name name)) c.deref.ensures.value)))

pub returns-in-Some-place_below-clause-found : goal.returns-in-Some-place_below-clause-found
returns-in-Some-place_below-clause-found c =
    let name = c.args.name.now in
    let files = c.fails_now.new.self.files.items in
    let folder = found_folder files name c.in-Some-place_below.file (sym (c.in-Some-place_below.ensures ∙ ap (position (lies_below name)) c.deref-2.ensures.value)) in
    rw (← c.fails_now.ensures.files) (no_name files name (sym (c.in_default.ensures ∙ ap (position (has_name name)) c.deref.ensures.value)), folder.0, folder.1)

pub returns-clause-found : goal.returns-clause-found
returns-clause-found c =
    let name = c.args.name.now in
    let files = c.fails_now.new.self.files.items in
    rw (← c.fails_now.ensures.files) (
      no_name files name (sym (c.in_default.ensures ∙ ap (position (has_name name)) c.deref.ensures.value)),
      no_folder files name (sym (c.in_default-place_below.ensures ∙ ap (position (lies_below name)) c.deref-2.ensures.value)),
      refl,
    )
