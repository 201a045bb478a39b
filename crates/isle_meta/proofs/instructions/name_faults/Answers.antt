use Rattle.std.proofs.Common.{◌∙◌, ap}
use Rattle.isle_lawful_names.proofs.FoundLaws.{as_test}
use Rattle.isle_meta.specs.TableNames.{is_reserved_term}
use Rattle.isle_meta.proofs.instructions.name_faults.Goals as goal

pub returns-clause-told : goal.returns-clause-told
returns-clause-told c = λ before has cased.
    record {
      bad = c.in_ok-bad.ensures;
      repeated = as_test _ _ (c.in_ok-repeated.ensures.told _ _ has cased);
      reserved = as_test _ _ (c.is_reserved_term-reserved.ensures ∙ ap is_reserved_term c.as_str.ensures);
    }
