use Rattle.std.proofs.Common.{sym, ap, ◌∙◌}
use Rattle.isle_numerics.specs.Definitions.{numeric_terms}
use Rattle.isle_meta.specs.TableNames.{is_array_term}
use Rattle.isle_meta.proofs.RepeatLaws.{among, not_among}
use Rattle.isle_meta.proofs.ReservedLaws.{array_reserved, numeric_reserved}
use Rattle.isle_meta.proofs.kept_names.is_reserved_term.Goals as goal

pub returns-then-not-is_new : goal.returns-then-not-is_new
returns-then-not-is_new c =
    let name = c.args.name.now in
    numeric_reserved name (sym c.is_prelude_term.ensures ∙ c.if-is_prelude_term.false)
    (among numeric_terms name c.is_new.result c.if-not-is_new.true (c.is_new.ensures numeric_terms c.requires))

pub returns : goal.returns
returns c =
    let name = c.args.name.now in
    array_reserved name c.is_array_term.result (sym c.is_prelude_term.ensures ∙ c.if-is_prelude_term.false)
    (not_among numeric_terms name c.is_new.result c.if-not-is_new.false (c.is_new.ensures numeric_terms c.requires))
    (c.is_array_term.ensures ∙ ap is_array_term c.as_bytes.ensures.value)
