-- The rules of a term prescribe at most one outcome.
use Rattle.std.proofs.Common.{◌≡◌, ℤ, List, Some, None, refl, sym, ap, ◌∙◌, ⊎_elim, arith}
use Rattle.std.specs.Prelude.{◌<ℤ◌}
use Rattle.std.proofs.lemmas.Int.{ints}
use Rattle.isle_core.specs.declared.types.ReturnKind.{ReturnKind}
use Rattle.isle_core.specs.Value.{Value, Made}
use Rattle.isle_core.specs.Meaning.{Meaning}
use Rattle.isle_core.specs.Match.{Names}
use Rattle.isle_core.specs.Outcome.{Prescription, Prescribed, no_rule, one_rule, IsHighest, rule_names, prescription_of, rule_value}
use Rattle.isle_core.specs.Rule.{Environment, Rule}

-- two priorities that lie below each other
not_both : (a b : ℤ) → a <ℤ b → b <ℤ a → ⊥
not_both a b h k = omega (arith, ints)

-- two highest rules are one
pub same_rule : {env : Environment} {m : Meaning} {args : List Value} {rules : List Rule} {r q : Rule} {names others : Names}
    → IsHighest env m args rules r names → IsHighest env m args rules q others → q ≡ r
same_rule {r = r} {q = q} {names = names} {others = others} h k =
    ⊎_elim (λ e. e) (λ below. ⊎_elim (λ e. sym e) (λ above. absurd (not_both q.prio r.prio below above)) (k.above r names h.among h.matched))
    (h.above q others k.among k.matched)

some_names : (a b : Names) → Some a ≡ Some b → a ≡ b
some_names a b e = cc

none_some : (a : Names) → None ≡ Some a → ⊥
none_some a e = cc

-- at most one outcome is prescribed
pub prescribed_once : {env : Environment} {m : Meaning} {args : List Value} {rules : List Rule} {kind : ReturnKind} {made : List Made} {o p : Prescription}
    → Prescribed env m args rules kind made o → Prescribed env m args rules kind made p → o ≡ p
prescribed_once (no_rule h) (no_rule k) = refl
prescribed_once (no_rule h) (one_rule r names k) = absurd (none_some names (sym (h r k.among) ∙ k.matched))
prescribed_once (one_rule r names h) (no_rule k) = absurd (none_some names (sym (k r h.among) ∙ h.matched))
prescribed_once {env = env} {m = m} {args = args} {made = made} (one_rule r names h) (one_rule q others k) =
    let e : q ≡ r = same_rule h k in
    let n : names ≡ others = some_names names others (sym h.matched ∙ ap (rule_names env m args) (sym e) ∙ k.matched) in
    ap (λ (x : Rule). prescription_of (rule_value env m x names made)) (sym e) ∙ ap (λ (x : Names). prescription_of (rule_value env m q x made)) n
