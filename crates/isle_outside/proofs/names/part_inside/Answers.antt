use Rattle.std.proofs.Common.{◌++◌, lit<, ap, sym, ◌∙◌}
use Rattle.std.proofs.lemmas.Str.Pattern.{strip_prefix_char}
use Rattle.isle_outside.specs.Directory.{inside_folder}
use Rattle.isle_outside.proofs.NameLaws.{inside-append, inside_lacks, inside_stripped}
use Rattle.isle_outside.proofs.names.part_inside.Goals as goal

pub returns-in-None : goal.returns-in-None
returns-in-None c = sym (inside_lacks c.args.folder.now c.args.file.now c.in-None.ensures.cases)

pub returns-in-Some : goal.returns-in-Some
returns-in-Some c =
    let folder = c.args.folder.now in
    let cut = c.in-Some.ensures.cases in
    inside_stripped _ _ (strip_prefix_char 47 c.in-Some.rest.now _ c.strip_prefix-in-Some.ensures.cases (lit< tt))
    ∙ sym (inside-append folder c.in-Some.rest.now)
    ∙ ap (inside_folder folder) (sym (cut.1.1 ∙ ap (λ part. folder ++ part) (sym cut.2)))
