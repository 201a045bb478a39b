use Rattle.isle_meta.specs.FormatRow as format
use Rattle.isle_meta.specs.TableNames.{repeats}
use Rattle.isle_meta.proofs.RepeatLaws.{among_or}
use Rattle.std.proofs.Common.{subst}
use Rattle.std.specs.Prelude.{◌↔◌, IsTrue, Contains}
use Rattle.isle_meta.proofs.formats.has_repeated_name.Goals as goal

pub returns-clause-told : goal.returns-clause-told
returns-clause-told c = λ earlier has.
    let told = subst (λ t. IsTrue c.in_ok-fresh.fresh ↔ (Contains earlier t → ⊥)) c.as_str.ensures (c.in_ok-fresh.ensures.fresh earlier has) in
    among_or earlier c.args.format.now.name c.in_ok-fresh.fresh c.in_ok-repeated.repeated (repeats (format.field_names c.args.format.now)) told c.in_ok-repeated.ensures
