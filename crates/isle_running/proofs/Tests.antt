-- How a statement with a test goes on.
use Rattle.std.proofs.Common.{◌≡◌, Bool, true, false, Option, Some, None, refl}
use Rattle.std.specs.Prelude.{if◌then◌else◌}
use Rattle.isle_core.specs.Answered.{AValue, ATuple, Held, Absent, One, Optional, Listed}
use Rattle.isle_core.specs.SameInRun.{same_in_run}
use Rattle.isle_tree.specs.Run.{Flow, Stuck, on_value, value_in}
use Rattle.isle_running.specs.RunViews.{tested}

-- by what a test says
abbrev pub by_test : Option Bool → Flow → Flow → Flow
by_test None met other = Stuck
by_test (Some true) met other = met
by_test (Some false) met other = other

pick : (b : Bool) (met other : Flow) → (if b then met else other) ≡ by_test (Some b) met other
pick true met other = refl
pick false met other = refl

pub on_test : (g h : Held) (met other : Flow) → on_value g (λ v. on_value h (λ w. if same_in_run v w then met else other)) ≡ by_test (tested (value_in g) (value_in h)) met other
on_test (One (AValue v)) (One (AValue w)) met other = pick (same_in_run v w) met other
on_test (One (AValue v)) (One (ATuple ws)) met other = refl
on_test (One (AValue v)) (Optional o) met other = refl
on_test (One (AValue v)) (Listed is) met other = refl
on_test (One (AValue v)) Absent met other = refl
on_test (One (ATuple vs)) h met other = refl
on_test (Optional o) h met other = refl
on_test (Listed is) h met other = refl
on_test Absent h met other = refl
