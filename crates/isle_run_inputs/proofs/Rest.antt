-- Written values that are left, each at its type.
use Rattle.std.proofs.Common.{◌≡◌, ℕ, zero, suc, ◌+◌, ◌<◌, length, get_or, List, [], ◌∷◌, drop, ◌++◌, refl, sym, ap, ◌∙◌, arith}
use Rattle.std.specs.Prelude.{slice_get}
use Rattle.std.proofs.lemmas.List.{drop_more, map-append, append_assoc}
use Rattle.isle_core.specs.declared.TypeId.{TypeId}
use Rattle.isle_core.specs.Rule.{Environment}
use Rattle.isle_core.specs.declared.values.Value.{Value as CodeValue}
use Rattle.isle_core.specs.ValueViews.{value, values}
use Rattle.isle_values.specs.declared.written.Written.{Written as CodeWritten}
use Rattle.isle_values.specs.Written.{Written, Writtens, AValue}
use Rattle.isle_values.specs.Views.{written, seen}
use Rattle.isle_run_inputs.specs.ValuesAt.{value_at_any, values_at}

-- the first of those that are left is at the type that stands at its place
at_first : (env : Environment) (tys : List TypeId) (i : ℕ) (w : Written) (ws : Writtens) → values_at env (drop i tys) (AValue w ws) ≡ value_at_any env (slice_get tys i) w ∷ values_at env (drop (suc i) tys) ws
at_first env [] zero w ws = refl
at_first env [] (suc i) w ws = refl
at_first env (ty ∷ tys) zero w ws = refl
at_first env (ty ∷ tys) (suc i) w ws = at_first env tys i w ws

-- one value more
pub values_more : (env : Environment) (tys : List TypeId) (given : List CodeWritten) (i : ℕ) (w : CodeWritten) (old new : List CodeValue) (v : CodeValue) → i < length given → w ≡ get_or given i w
    → value v ≡ value_at_any env (slice_get tys i) (written w) → new ≡ old ++ v ∷ []
    → values_at env tys (seen given) ≡ values old ++ values_at env (drop i tys) (seen (drop i given))
    → values_at env tys (seen given) ≡ values new ++ values_at env (drop (i + 1) tys) (seen (drop (i + 1) given))
values_more env tys given i w old new v lt is at pushed were =
    were
    ∙ ap (λ xs. values old ++ values_at env (drop i tys) (seen xs)) (drop_more given i w lt ∙ ap (λ x. x ∷ drop (i + 1) given) (sym is))
    ∙ ap (λ vs. values old ++ vs) (at_first env tys i (written w) (seen (drop (i + 1) given)))
    ∙ ap (λ x. values old ++ x ∷ values_at env (drop (suc i) tys) (seen (drop (i + 1) given))) (sym at)
    ∙ ap (λ k. values old ++ value v ∷ values_at env (drop k tys) (seen (drop (i + 1) given))) next
    ∙ sym (append_assoc (values old) (value v ∷ []) (values_at env (drop (i + 1) tys) (seen (drop (i + 1) given))))
    ∙ ap (λ vs. vs ++ values_at env (drop (i + 1) tys) (seen (drop (i + 1) given))) (sym (ap values pushed ∙ map-append value old (v ∷ [])))
  where
    next : suc i ≡ i + 1
    next = omega arith
