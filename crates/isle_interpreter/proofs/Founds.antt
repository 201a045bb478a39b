-- The run of the function that a term has.
use Rattle.std.proofs.Common.{◌≡◌, ℕ, List, Some, None, sym, ap, ◌∙◌, subst}
use Rattle.isle_core.specs.Value.{Value, End, Ran}
use Rattle.isle_core.specs.Meaning.{Meaning}
use Rattle.isle_tree.specs.Program.{Function, Program}
use Rattle.isle_tree.specs.WellFormed.{IsWellFormed}
use Rattle.isle_tree.specs.Run.{function_of, function_run, run}
use Rattle.isle_interpreter.specs.Ends.{EndFits}
use Rattle.isle_interpreter.specs.Refusals.{MayRun}
use Rattle.isle_interpreter.proofs.Runs.{runs}

pub run_is : (p : Program) (term : List ℕ) (args : List Value) (m : Meaning) (held : ℕ) (f : Function) → MayRun p term args m f → run p term args m held ≡ function_run p m held args (Some f)
run_is p term args m held f may = ap (function_run p m held args) may.found

-- it isn't absent
pub not_none : (p : Program) (term : List ℕ) (args : List Value) (m : Meaning) (held : ℕ) (f : Function) → IsWellFormed p → MayRun p term args m f → None ≡ function_run p m held args (Some f) → ⊥
not_none p term args m held f well may e =
    let there = runs p term args m held f well may in
    let same : None ≡ Some there.ran = e ∙ sym (run_is p term args m held f may) ∙ there.is in
    cc

-- it ends as the function's kind does
pub end_fits : (p : Program) (term : List ℕ) (args : List Value) (m : Meaning) (held : ℕ) (f : Function) (x : Ran) → IsWellFormed p → MayRun p term args m f → Some x ≡ function_run p m held args (Some f) → EndFits f.kind x.end
end_fits p term args m held f x well may e =
    let there = runs p term args m held f well may in
    let found : Some x ≡ Some there.ran = e ∙ sym (run_is p term args m held f may) ∙ there.is in
    let same : there.ran ≡ x = cc in
    subst (λ (y : Ran). EndFits f.kind y.end) same there.fits

-- whichever function the term has
pub kind_fits : (term : List ℕ) (fs : List Function) (f g : Function) (x : End) → function_of term fs ≡ Some f → function_of term fs ≡ Some g → EndFits f.kind x → EndFits g.kind x
kind_fits term fs f g x e h fits = let same : f ≡ g = cc in subst (λ (y : Function). EndFits y.kind x) same fits
