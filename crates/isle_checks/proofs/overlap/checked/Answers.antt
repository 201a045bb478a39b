use Rattle.std.proofs.Common.{◌≡◌, [], ◌∷◌, length, arith, ◌∙◌, refl, subst, sym}
use Rattle.std.proofs.lemmas.Bool.Decides.{nat_tests}
use Rattle.std.specs.Prelude.{List, Result, Err}
use Rattle.isle_core.specs.declared.errors.Error.{Error}
use Rattle.isle_core.specs.RuleViews.{environment}
use Rattle.isle_checks.specs.CheckList.{IsCheckList}
use Rattle.isle_checks.specs.declared.overlap.CheckError.{CheckError}
use Rattle.isle_checks.specs.declared.overlap.CheckError.TheVariants.{Rules}
use Rattle.isle_checks.proofs.overlap.checked.Goals as goal

nil_of : {X : Type 0} (xs : List X) → length xs ≡ 0 → xs ≡ []
nil_of [] e = refl
nil_of (x ∷ xs) e = absurd (omega arith)

rules_given : {X : Type 0} (es fs : List Error) (r : Result X CheckError) → r ≡ Err (Rules es) → r ≡ Err (Rules fs) → es ≡ fs
rules_given es fs r e h = cc

pub returns-then-is_empty-clause-clean : goal.returns-then-is_empty-clause-clean
returns-then-is_empty-clause-clean c = λ types.
    let env = environment types c.args.termenv.now in
    let told = c.in_ok-errors.ensures env (rw c.as_slice.ensures refl) (record { forms = c.requires.built; bound = c.requires.bound }) (rw c.as_slice-2.ensures.value (c.in_ok-sets.ensures types)) in
    let is = c.if-is_empty.ensures in
    let none_counted : length c.in_ok-errors.errors.items ≡ 0 = grind (arith, nat_tests) in
    subst (IsCheckList env) {y = []} (nil_of c.in_ok-errors.errors.items none_counted) told

pub returns-clause-err : goal.returns-clause-err
returns-clause-err c = λ errors is types.
    let env = environment types c.args.termenv.now in
    let told = c.in_ok-errors.ensures env (rw c.as_slice.ensures refl) (record { forms = c.requires.built; bound = c.requires.bound }) (rw c.as_slice-2.ensures.value (c.in_ok-sets.ensures types)) in
    subst (IsCheckList env) (sym c.new.ensures ∙ rules_given c.new.result errors _ refl is) told
