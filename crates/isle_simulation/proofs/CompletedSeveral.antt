-- A completed block of a term that answers several times gives what the block gives.
use Rattle.std.proofs.Common.{◌≡◌, ℕ, ◌+◌, List, [], ◌∷◌, ◌++◌, cond, refl, ap, ◌∙◌}
use Rattle.isle_core.specs.Answered.{Item}
use Rattle.isle_core.specs.ArmPlaces.{bound_within}
use Rattle.isle_core.specs.Bindable.{bound_by}
use Rattle.isle_core.specs.Block.{Block, Stop, Step, Control, Match, Equal, Loop, Return, Arms, NoArm, Arm}
use Rattle.isle_core.specs.BlockRun.{bind_all}
use Rattle.isle_core.specs.CallRun.{Went, Goes, Ends}
use Rattle.isle_core.specs.Meaning.{Meaning}
use Rattle.isle_core.specs.Parts.{Given}
use Rattle.isle_core.specs.Path.{Path, at}
use Rattle.isle_core.specs.SeveralRun.{choosing, behind_calls, on_turns, on_items, list_of, several_run, several_control, several_arms}
use Rattle.isle_core.specs.Setting.{Setting, paths_in}
use Rattle.isle_core.specs.Value.{Value}
use Rattle.isle_core.specs.ValueAt.{Held, Absent, One, Optional, Listed, Known, value_at, meets, equal_held}
use Rattle.isle_simulation.specs.Completed.{step_binds, completed, completed_control, completed_arms}
use Rattle.isle_simulation.proofs.CompletedRuns.{step_binds_run}

behind_same : (w x : Went) (g : Given) (next other : Known → Given → Given) → w ≡ x → ((known : Known) (so : Given) → next known so ≡ other known so) → behind_calls w g next ≡ behind_calls x g other
behind_same (Goes known made) x g next other e h = h known (record { results = g.results; calls = made }) ∙ ap (λ y. behind_calls y g other) e
behind_same (Ends o) x g next other e h = ap (λ y. behind_calls y g other) e

turns_same : (is : List Item) (p : Path) (place : ℕ) (known : Known) (g : Given) (turn other : Known → Given → Given) → ((now : Known) (so : Given) → turn now so ≡ other now so) → on_turns p is place known g turn ≡ on_turns p is place known g other
turns_same [] p place known g turn other h = refl
turns_same (i ∷ is) p place known g turn other h =
    ap (λ so. on_turns p is (place + 1) known so turn) (h (choosing known p place) g) ∙ turns_same is p (place + 1) known (other (choosing known p place) g) turn other h

items_same : (held : Held) (p : Path) (known : Known) (g : Given) (turn other : Known → Given → Given) → ((now : Known) (so : Given) → turn now so ≡ other now so) → on_items p held known g turn ≡ on_items p held known g other
items_same (Listed is) p known g turn other h = turns_same is p 0 known g turn other h
items_same Absent p known g turn other h = refl
items_same (One i) p known g turn other h = refl
items_same (Optional o) p known g turn other h = refl

module _ (s : Setting) (m : Meaning) (args : List Value) where
  mutual
    pub several_same : (b : Block) (bound : List ℕ) (known : Known) (g : Given) → several_run s.env m args (paths_in s) (completed s bound b) known g ≡ several_run s.env m args (paths_in s) b known g
    several_same Stop bound known g = refl
    several_same (Step bs c more) bound known g =
        let inner = bound_by bound (step_binds s bound bs c) in
        behind_same (bind_all s.env m args (paths_in s) (step_binds s bound bs c) known g.calls) (bind_all s.env m args (paths_in s) bs known g.calls) g
        (λ now so. several_run s.env m args (paths_in s) (completed s inner more) now (several_control s.env m args (paths_in s) (completed_control s inner c) now so))
        (λ now so. several_run s.env m args (paths_in s) more now (several_control s.env m args (paths_in s) c now so))
        (step_binds_run s m args bs c bound known g.calls)
        (λ now so. several_same more inner now (several_control s.env m args (paths_in s) (completed_control s inner c) now so) ∙ ap (several_run s.env m args (paths_in s) more now) (control_same c inner now so))

    control_same : (c : Control) (bound : List ℕ) (known : Known) (g : Given) → several_control s.env m args (paths_in s) (completed_control s bound c) known g ≡ several_control s.env m args (paths_in s) c known g
    control_same (Match source arms) bound known g = arms_same arms bound (value_at s.env m args known (at (paths_in s) source)) known g
    control_same (Equal a b body) bound known g =
        ap (λ x. cond (equal_held (value_at s.env m args known (at (paths_in s) a)) (value_at s.env m args known (at (paths_in s) b))) x g) (several_same body bound known g)
    control_same (Loop result body) bound known g =
        items_same (value_at s.env m args known (list_of (at (paths_in s) result))) (list_of (at (paths_in s) result)) known g _ _ (λ now so. several_same body (bound ++ result.0 ∷ []) now so)
    control_same (Return pos result) bound known g = refl

    arms_same : (arms : Arms) (bound : List ℕ) (h : Held) (known : Known) (g : Given) → several_arms s.env m args (paths_in s) (completed_arms s bound arms) h known g ≡ several_arms s.env m args (paths_in s) arms h known g
    arms_same NoArm bound h known g = refl
    arms_same (Arm c places body arms) bound h known g =
        ap (λ x. cond (meets s.env m c h) x (several_arms s.env m args (paths_in s) (completed_arms s bound arms) h known g)) (several_same body (bound_within bound places) known g)
        ∙ ap (λ x. cond (meets s.env m c h) (several_run s.env m args (paths_in s) body known g) x) (arms_same arms bound h known g)
