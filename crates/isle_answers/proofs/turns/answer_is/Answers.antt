use Rattle.std.proofs.Common.{rules, ◌≡◌, ◌∙◌, ap, sym, map, length, true, false}
use Rattle.std.specs.Prelude.{bytes_eq, codes, ◌==◌}
use Rattle.isle_values.specs.Views.{in_order, written}
use Rattle.isle_values.specs.Written.{Made}
use Rattle.isle_values.proofs.Sees.{written-made}
use Rattle.isle_answers.specs.Reading.{answer_is}
use Rattle.isle_answers.proofs.MadeSteps.{none_of_some}
use Rattle.isle_answers.proofs.turns.answer_is.Goals as goal

pub returns-in-none : goal.returns-in-none
returns-in-none c =
    let word : bytes_eq c.in-Made.name (codes "none") ≡ true = search rules in
    let some : (length c.in-Made.parts == 0) ≡ false = search rules in
    let value : written c.args.value ≡ Made c.in-Made.name (in_order (map written c.in-Made.parts)) = ap written c.in-Made.is ∙ written-made c.in-Made.name c.in-Made.parts in
    none_of_some written c.in-Made.name c.in-Made.parts word some ∙ ap answer_is (sym value)
