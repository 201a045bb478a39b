use Rattle.std.proofs.Common.{◌∙◌, sym}
use Rattle.isle_meta.proofs.ShortNameLaws.{short_found, short_none}
use Rattle.isle_prelude.proofs.paths.short_name.Goals as goal

pub returns-in-Some : goal.returns-in-Some
returns-in-Some c =
    let h = c.in-Some.ensures.cases in
    h.4 ∙ sym (short_found c.args.path.now h.0 _ h.2.1.split h.2.0)

pub returns-in-None : goal.returns-in-None
returns-in-None c = sym (short_none c.args.path.now c.in-None.ensures.cases)
