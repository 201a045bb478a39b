use Rattle.std.proofs.Common.{refl, sym, subst}
use Rattle.std.specs.Prelude.{◌↔◌, IsTrue, Contains}
use Rattle.isle_lawful_names.specs.LawfulNames.{IsTypeName}
use Rattle.isle_lawful_names.specs.Claims.{OfType, is_ruled}
use Rattle.isle_lawful_names.proofs.FoundLaws.{both_tests}
use Rattle.isle_lawful_names.proofs.types.name_found.Goals as goal

pub returns : goal.returns
returns c = λ env ruled. record {
  judged = λ earlier has.
      c.unless_lawful.ensures env (OfType earlier c.args.name.now)
      (both_tests c.is_type_name.result c.in_ok-fresh.fresh (IsTypeName (is_ruled env.rules) c.args.name.now) (Contains earlier c.args.name.now → ⊥)
      (subst (λ b. IsTrue c.is_type_name.result ↔ IsTypeName b c.args.name.now) (sym ruled) c.is_type_name.ensures) (c.in_ok-fresh.ensures.fresh earlier has)) refl refl;
  more = λ earlier has none. c.in_ok-fresh.ensures.more earlier has;
}
