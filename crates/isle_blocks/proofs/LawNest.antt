-- What a rule's tests give, nested round what follows them.
use Rattle.std.proofs.Common.{◌≡◌, ℕ, List, [], ◌∷◌, ◌++◌, Bool, true, false, cond, ◌&&◌, Option, map, refl, ap, ◌∙◌}
use Rattle.isle_core.specs.declared.BindingId.{BindingId}
use Rattle.isle_core.specs.declared.rule_sets.Binding.{Binding}
use Rattle.isle_core.specs.declared.rule_sets.Constraint.{Constraint}
use Rattle.isle_core.specs.declared.rule_sets.FlatRule.{FlatRule}
use Rattle.isle_core.specs.declared.types.Term.{Term}
use Rattle.isle_core.specs.Value.{Value, Made}
use Rattle.isle_core.specs.Meaning.{Meaning}
use Rattle.isle_core.specs.Path.{Path, at, paths_of}
use Rattle.isle_core.specs.Tests.{Test}
use Rattle.isle_core.specs.ValueAt.{Known, nothing_known, value_at, meets, equal_held, all_hold}
use Rattle.isle_core.specs.CallRun.{Went, Goes, Ends, then_go, returns}
use Rattle.isle_core.specs.RuleSet.{is_test, equal_test, flat_run}
use Rattle.isle_core.specs.ArmPlaces.{bound_within}
use Rattle.isle_core.specs.Bindable.{bound_by}
use Rattle.isle_core.specs.Block.{Control}
use Rattle.isle_core.specs.BlockViews.{SeenStep}
use Rattle.isle_core.specs.BlockRun.{bind_all, control_run}
use Rattle.isle_core.specs.StandsFor.{EachOnce}
use Rattle.isle_core.specs.Serializable.{IsSerializableRule}
use Rattle.isle_core.specs.Calling.{kind_of, is_several}
use Rattle.isle_core.specs.Rule.{Environment}
use Rattle.isle_blocks.specs.Needed.{needs}
use Rattle.isle_blocks.specs.Nest.{Shows, Behind, last_step, all_matched, all_equated}
use Rattle.isle_blocks.proofs.LawBinds.{last_binds_run}
use Rattle.isle_blocks.proofs.NeededRuns.{AreStill, goes_on, needs_still}
use Rattle.isle_blocks.proofs.NextLaws.{FindsNext}
use Rattle.isle_blocks.proofs.StillRules.{StillLast, StillEquated, StillMatched}

pub if_inside : (b c : Bool) (x y z : Went) → (b ≡ true → x ≡ cond c y z) → cond b x z ≡ cond (b && c) y z
if_inside true c x y z e = e refl
if_inside false c x y z e = refl

-- what a step does at first
abbrev pub step_run : Environment → Meaning → List Value → List Path → SeenStep → Went
step_run env m args ps s = then_go (bind_all env m args ps s.0 nothing_known []) (control_run env m args ps s.1)

-- a step does y if tests hold, and goes on elsewhere
abbrev pub DoesWhere : Environment → Meaning → List Value → List Path → SeenStep → List Test → Went → Type 0
DoesWhere env m args ps s ts y = step_run env m args ps s ≡ cond (all_hold env m (value_at env m args nothing_known) ts) y (Goes nothing_known [])

-- these constraints hold
abbrev pub AllHold : Environment → Meaning → List Value → List Path → List (BindingId × Constraint) → Type 0
AllHold env m args ps cs = all_hold env m (value_at env m args nothing_known) (map (is_test ps) cs) ≡ true

-- one before others that hold
pub hold_more : (env : Environment) (m : Meaning) (args : List Value) (ps : List Path) (c : BindingId × Constraint) (cs : List (BindingId × Constraint)) → meets env m c.1 (value_at env m args nothing_known (at ps c.0)) ≡ true → AllHold env m args ps cs → AllHold env m args ps (c ∷ cs)
hold_more env m args ps c cs is all = ap (λ b. b && all_hold env m (value_at env m args nothing_known) (map (is_test ps) cs)) is ∙ all

-- binding what is needed changes nothing
step_still : (env : Environment) (m : Meaning) (args : List Value) (ps : List Path) (ns : List BindingId) (c : Control) → AreStill env ps ns → step_run env m args ps (ns, c) ≡ control_run env m args ps c nothing_known []
step_still env m args ps ns c h = ap (λ w. then_go w (control_run env m args ps c)) (needs_still env m args ps ns nothing_known [] h)

pub matched_does : (shows : Shows) (cs : List (BindingId × Constraint)) (ts : List Test) (inner : Behind) (y : Went) (env : Environment) (m : Meaning) (args : List Value) (bs : List Binding) (P : List ℕ → Type 0)
    → ((bound : List ℕ) → P bound → AllHold env m args (paths_of bs) cs → DoesWhere env m args (paths_of bs) (inner bound) ts y) → (bound : List ℕ) → StillMatched env bs shows cs P bound → DoesWhere env m args (paths_of bs) (all_matched false bs shows cs inner bound) (map (is_test (paths_of bs)) cs ++ ts) y
matched_does shows [] ts inner y env m args bs P h bound still = h bound still refl
matched_does shows (c ∷ cs) ts inner y env m args bs P h bound still =
    let ps = paths_of bs in
    let within = bound_within (bound_by bound (needs bs bound (c.0 ∷ []))) (shows c.0 c.1) in
    step_still env m args ps (needs bs bound (c.0 ∷ [])) (all_matched false bs shows (c ∷ cs) inner bound).1 still.0
    ∙ if_inside (meets env m c.1 (value_at env m args nothing_known (at ps c.0))) (all_hold env m (value_at env m args nothing_known) (map (is_test ps) cs ++ ts)) _ _ _
    (λ is. goes_on (step_run env m args ps (all_matched false bs shows cs inner within)) ∙ matched_does shows cs ts inner y env m args bs P (λ b k all. h b k (hold_more env m args ps c cs is all)) within still.1)

pub equated_does : (es : List (BindingId × BindingId)) (inner : Behind) (y : Went) (env : Environment) (m : Meaning) (args : List Value) (bs : List Binding) (P : List ℕ → Type 0)
    → ((bound : List ℕ) → P bound → step_run env m args (paths_of bs) (inner bound) ≡ y) → (bound : List ℕ) → StillEquated env bs es P bound → DoesWhere env m args (paths_of bs) (all_equated false bs es inner bound) (map (equal_test (paths_of bs)) es) y
equated_does [] inner y env m args bs P h bound still = h bound still
equated_does (e ∷ es) inner y env m args bs P h bound still =
    let ps = paths_of bs in
    let within = bound_by bound (needs bs bound (e.0 ∷ e.1 ∷ [])) in
    step_still env m args ps (needs bs bound (e.0 ∷ e.1 ∷ [])) (all_equated false bs (e ∷ es) inner bound).1 still.0
    ∙ if_inside (equal_held (value_at env m args nothing_known (at ps e.0)) (value_at env m args nothing_known (at ps e.1))) (all_hold env m (value_at env m args nothing_known) (map (equal_test ps) es)) _ _ _
    (λ is. goes_on (step_run env m args ps (all_equated false bs es inner within)) ∙ equated_does es inner y env m args bs P h within still.1)

-- ---- rules that are ready

pub last_runs : (env : Environment) (t : Term) (answers_once : is_several (kind_of t.kind) ≡ false) (m : Meaning) (args : List Value) (bs : List Binding) (next items : ℕ → Option BindingId) (f : FlatRule) → FindsNext bs next → EachOnce (paths_of bs) → IsSerializableRule env t (paths_of bs) f
    → AllHold env m args (paths_of bs) f.constraints → (bound : List ℕ) → StillLast false env bs next items f bound → step_run env m args (paths_of bs) (last_step false bs next items f bound) ≡ flat_run env m args (paths_of bs) f
last_runs env t answers_once m args bs next items f found once h all bound still =
    ap (λ w. then_go w (returns env m args (at (paths_of bs) f.result))) (last_binds_run env t answers_once m args bs next found once f bound all h.calls still.1 nothing_known [] refl)

-- nothing is reached after a result
pub result_ends : (w : Went) (env : Environment) (m : Meaning) (args : List Value) (p : Path) (more : Known → List Made → Went) → then_go (then_go w (returns env m args p)) more ≡ then_go w (returns env m args p)
result_ends (Goes known made) env m args p more = refl
result_ends (Ends o) env m args p more = refl
