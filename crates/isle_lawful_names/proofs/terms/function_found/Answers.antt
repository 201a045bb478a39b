use Rattle.std.proofs.Common.{◌≡◌, [], ◌∷◌, ◌++◌, ◌&&◌, refl, sym, subst}
use Rattle.std.specs.Prelude.{◌↔◌, IsTrue, Contains}
use Rattle.isle_core.specs.Terms.{symbol_text}
use Rattle.isle_lawful_names.specs.NameSet.{HasNames}
use Rattle.isle_spelling.specs.Identifier.{IsIdentifier}
use Rattle.isle_lawful_names.specs.Claims.{OfFunction, function_claims}
use Rattle.isle_lawful_names.specs.Functions.{texts_of}
use Rattle.isle_lawful_names.specs.Judges.{JudgesBehind}
use Rattle.isle_lawful_names.proofs.FoundLaws.{both_tests}
use Rattle.isle_lawful_names.proofs.terms.function_found.Goals as goal

pub returns : goal.returns
returns c = λ env.
    let types = c.args.types.now in
    let text = symbol_text types c.in-Some.func in
    let named : c.symbol-name.result.now ≡ text = c.symbol-name.ensures in
    subst (λ o. JudgesBehind env (λ earlier. function_claims earlier (texts_of types o)) (texts_of types o) c.args.names.now c.added.new.names c.unless_lawful.result) (sym c.in-Some.is) (record {
      judged = λ earlier has.
          c.unless_lawful.ensures env (OfFunction earlier text)
          (subst (λ n. IsTrue (c.is_identifier.result && c.in_ok-fresh.fresh) ↔ (IsIdentifier n × (Contains earlier n → ⊥))) named
          (both_tests c.is_identifier.result c.in_ok-fresh.fresh (IsIdentifier c.symbol-name.result.now) (Contains earlier c.symbol-name.result.now → ⊥) c.is_identifier.ensures (c.in_ok-fresh.ensures.fresh earlier has)))
          named refl;
      more = λ earlier has none. subst (λ n. HasNames (earlier ++ n ∷ []) c.added.new.names) named (c.in_ok-fresh.ensures.more earlier has);
    })
