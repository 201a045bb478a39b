-- A flat rule of a `multi` term adds the same, whatever calls of other rules were made before.
use Rattle.std.proofs.Common.{◌≡◌, ◌⊎◌, inl, inr, ℕ, ◌+◌, ◌<◌, ◌≤◌, List, not, None, refl}
use Rattle.std.specs.Prelude.{Contains}
use Rattle.std.specs.List.{AllByRecursion}
use Rattle.isle_base.specs.declared.ids.TypeId.{TypeId}
use Rattle.isle_core.specs.Calling.{impure}
use Rattle.isle_core.specs.Choice.{first_items}
use Rattle.isle_core.specs.Choices.{each_choice, flat_adds}
use Rattle.isle_core.specs.HoldsImpure.{holds_impure}
use Rattle.isle_core.specs.Iterators.{calls_multi, rule_iterators}
use Rattle.isle_core.specs.Meaning.{Meaning}
use Rattle.isle_core.specs.Pairs.{choice_paths}
use Rattle.isle_core.specs.Parts.{Given}
use Rattle.isle_core.specs.Path.{Path}
use Rattle.isle_core.specs.Rule.{Environment}
use Rattle.isle_core.specs.RulePaths.{rule_paths}
use Rattle.isle_core.specs.Value.{Value}
use Rattle.isle_core.specs.ValueAt.{Known, nothing_known}
use Rattle.isle_core.specs.Works.{Work}
use Rattle.isle_core.proofs.LaterCalls.{Within}
use Rattle.isle_core.proofs.ListLaws.{filter_from}
use Rattle.isle_core.proofs.OtherAnswers.{AreOf, work_alike}
use Rattle.isle_core.proofs.PathsWithin.{rule_within, flat_within}
use Rattle.isle_core.proofs.RulePairs.{all_from, all_at, IsWork}

-- the occurrence of pure calls, and those of the impure calls of a rule
abbrev pub IsOwn : Environment → Work → ℕ → Type 0
IsOwn env w k = (k ≡ 0) ⊎ ((w.of.before < k) × (k ≤ w.of.before + impure env w.of.rule.rhs))

-- of these nothing is known, and no item is chosen
pub record IsUnmade (env : Environment) (w : Work) (known : Known) : Type 0 where
  pub by : (k : ℕ) → IsOwn env w k → known.answers k ≡ None
  pub choice : known.choice ≡ first_items

within_own : (env : Environment) (w : Work) → Within (IsOwn env w) w.of.before (impure env w.of.rule.rhs)
within_own env w = record { pure = inl refl; own = λ j lt up. inr (lt, up) }

-- the lists of a rule stand on its own calls
lists_own : (env : Environment) (m : Meaning) (tys : List TypeId) (ps : List Path) (w : Work) → IsWork env m tys ps w → AllByRecursion (AreOf (IsOwn env w)) w.lists
lists_own env m tys ps w h = all_from (AreOf (IsOwn env w)) w.lists (λ q c. all_at (AreOf (IsOwn env w)) (rule_paths env w.of.rule w.of.before) q paths (there q ((h.same q).0 c)))
  where
    paths : AllByRecursion (AreOf (IsOwn env w)) (rule_paths env w.of.rule w.of.before)
    paths = rule_within (IsOwn env w) env tys w.of.rule w.of.before h.tested (within_own env w)

    there : (q : Path) → Contains (choice_paths env w.of) q → Contains (rule_paths env w.of.rule w.of.before) q
    there q c = (filter_from (calls_multi env) (rule_paths env w.of.rule w.of.before) q (filter_from (λ p. not (holds_impure env p)) (rule_iterators env w.of.rule w.of.before) q c).0).0

-- so it adds what it adds first of all
pub work_apart : (env : Environment) (m : Meaning) (args : List Value) (tys : List TypeId) (ps : List Path) (w : Work) (known : Known) (g : Given) → IsWork env m tys ps w → IsUnmade env w known
    → each_choice env m args w.lists known g (flat_adds env m args ps w.flat) ≡ each_choice env m args w.lists nothing_known g (flat_adds env m args ps w.flat)
work_apart env m args tys ps w known g h unmade =
    work_alike env m args (IsOwn env w) ps w.flat w.lists known nothing_known g (flat_within (IsOwn env w) env m args tys ps w.of.rule w.of.before w.flat h.tested (within_own env w) h.flat) (lists_own env m tys ps w h)
    (record { by = λ k own. unmade.by k own; choice = unmade.choice })
