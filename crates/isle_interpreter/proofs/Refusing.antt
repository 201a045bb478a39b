-- What bad entries refuse.
use Rattle.std.proofs.Common.{◌≡◌, ◌⊎◌, ℕ, List, Some, inl, inr, refl, sym, subst, ⊎_elim}
use Rattle.std.specs.Prelude.{OnOk}
use Rattle.std.specs.declared.result.Result.{Result}
use Rattle.std.specs.declared.result.Result.TheVariants as result
use Rattle.isle_core.specs.Value.{Value}
use Rattle.isle_core.specs.Meaning.{Meaning}
use Rattle.isle_tree.specs.Program.{Function, Program}
use Rattle.isle_tree.specs.Run.{function_of}
use Rattle.isle_interpreter.specs.declared.run_error.RunError.{RunError}
use Rattle.isle_interpreter.specs.declared.run_error.RunError.TheVariants as error
use Rattle.isle_places.specs.Signatures.{type_names}
use Rattle.isle_interpreter.specs.Named.{AreNamed}
use Rattle.isle_interpreter.specs.Judged.{IsEarly, AreBad}
use Rattle.isle_interpreter.specs.Refusals.{IsRefused, wrong_entry, missing}
use Rattle.isle_interpreter.proofs.OneRefusal.{one_refusal}

pub bad_refused : (p : Program) (term : List ℕ) (args : List Value) (m : Meaning) (f : Function) (e : RunError) → function_of term p.fns ≡ Some f → AreNamed p.types (type_names f.params) args → AreBad p f m e
    → (e ≡ error.Memory) ⊎ IsRefused p term args m e
bad_refused p term args m f error.Memory there typed bad = inl refl
bad_refused p term args m f (error.BadAnswers i) there typed bad = inr (⊎_elim
    (λ wrong. wrong_entry f i there typed wrong)
    (λ none. subst (λ n. IsRefused p term args m (error.BadAnswers n)) (sym none.2) (missing f there typed none.0 none.1))
    bad)
bad_refused p term args m f error.NoTerm there typed bad = absurd bad
bad_refused p term args m f error.ArgCount there typed bad = absurd bad
bad_refused p term args m f (error.ArgType i) there typed bad = absurd bad

-- one of the first three refusals, or want of memory
pub early_refused : (p : Program) (term : List ℕ) (args : List Value) (m : Meaning) (e : RunError) → (e ≡ error.Memory) ⊎ (IsEarly e × ((m : Meaning) → IsRefused p term args m e)) → (e ≡ error.Memory) ⊎ IsRefused p term args m e
early_refused p term args m e h = ⊎_elim (λ memory. inl memory) (λ early. inr (early.1 m)) h

-- a refusal is the only one
pub only_one : (p : Program) (term : List ℕ) (args : List Value) (m : Meaning) (e : RunError) → (e ≡ error.Memory) ⊎ IsRefused p term args m e → (d : RunError) → IsRefused p term args m d → (e ≡ error.Memory) ⊎ (d ≡ e)
only_one p term args m e h d r = ⊎_elim (λ memory. inl memory) (λ refused. inr (one_refusal p term args m d e r refused)) h

-- what holds in any case
pub on_ok : {A E : Type 0} (r : Result A E) (P : Type 0) → P → OnOk r P
on_ok (result.Ok v) P h = h
on_ok (result.Err e) P h = tt
