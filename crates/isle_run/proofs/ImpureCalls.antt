-- A call of an impure term is one for which a type of its answer is found.
use Rattle.std.proofs.Common.{◌≡◌, List, [], ◌∷◌, Bool, true, false, cond, Some, refl}
use Rattle.std.specs.Prelude.{find, is_some, option_map, ◌||◌}
use Rattle.std.specs.List.{list_any}
use Rattle.isle_core.specs.declared.types.Term.{Term}
use Rattle.isle_core.specs.declared.values.Callee.{Callee}
use Rattle.isle_core.specs.Rule.{Environment}
use Rattle.isle_core.specs.Terms.{goes_to, impure_callee, is_impure}
use Rattle.isle_run_inputs.specs.Requested.{answer_type}

any_found : {A B : Type 0} (test : A → Bool) (f : A → B) (xs : List A) → is_some (option_map f (find test xs)) ≡ list_any test xs
any_found test f [] = refl
any_found test f (x ∷ xs) = by (test x) (any_found test f xs)
  where
    by : (b : Bool) → is_some (option_map f (find test xs)) ≡ list_any test xs → is_some (option_map f (cond b (Some x) (find test xs))) ≡ b || list_any test xs
    by true h = refl
    by false h = h

pub impure_found : (env : Environment) (callee : Callee) → is_some (answer_type env callee) ≡ is_impure env callee
impure_found env callee = any_found (λ (t : Term). goes_to callee (impure_callee env t t.kind)) (λ (t : Term). t.ret_ty) env.terms
