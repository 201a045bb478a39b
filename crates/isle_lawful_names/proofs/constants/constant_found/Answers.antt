use Rattle.std.proofs.Common.{refl}
use Rattle.std.specs.Prelude.{Contains}
use Rattle.isle_lawful_names.specs.LawfulNames.{IsConstantName, emitted_names}
use Rattle.isle_lawful_names.specs.Claims.{OfConstant}
use Rattle.isle_lawful_names.proofs.FoundLaws.{both_tests}
use Rattle.isle_lawful_names.proofs.constants.constant_found.Goals as goal

pub returns : goal.returns
returns c = λ env has.
    let names = emitted_names env.types env.types.types in
    c.unless_lawful.ensures env (OfConstant c.args.name.now)
    (both_tests c.is_constant_name.result c.is_new.result (IsConstantName c.args.name.now) (Contains names c.args.name.now → ⊥) c.is_constant_name.ensures (c.is_new.ensures names has)) refl refl
