-- A refusal of a run refuses it.
use Rattle.std.proofs.Common.{◌≡◌, ◌⊎◌, inl, inr, ℕ, List, [], length, Bool, true, false, Some, sym, subst, ap, refl, ◌∙◌}
use Rattle.isle_core.specs.Meaning.{Meaning}
use Rattle.isle_answers.specs.Form.{Form}
use Rattle.isle_answers.specs.Spelling.{SpellsForms}
use Rattle.isle_run_inputs.specs.AnswersAt.{answers_at}
use Rattle.isle_run_inputs.specs.Held.{held_at}
use Rattle.isle_run_inputs.specs.Places.{place_at}
use Rattle.isle_core.specs.Value.{Ran}
use Rattle.isle_tree.specs.Run.{run}
use Rattle.isle_interpreter.specs.Judged.{IsEarly, Runs}
use Rattle.isle_interpreter.specs.Refusals.{IsRefused}
use Rattle.isle_interpreter.specs.declared.run_error.RunError.{RunError}
use Rattle.isle_interpreter.specs.declared.run_error.RunError.TheVariants as error
use Rattle.isle_run.specs.declared.run_fail.RunFail.TheVariants as fail
use Rattle.isle_run.specs.Attempt.{Attempt}
use Rattle.isle_run.specs.LeftOut.{leave_out}
use Rattle.isle_run.specs.Ran.{IsUnder}
use Rattle.isle_run.specs.NoLines.{IsRunRefused, no_term, arg_count, arg_type, wrong, left_out}
use Rattle.isle_run.specs.Placed.{placed}

early : (a : Attempt) (text : List ℕ) (m : Meaning) (e : RunError) → IsEarly e → IsRefused a.program a.term a.args m e → IsRunRefused a text (placed e 0 [])
early a text m error.NoTerm is h = no_term m h
early a text m error.ArgCount is h = arg_count m h
early a text m (error.ArgType i) is h = arg_type m i h
early a text m (error.BadAnswers i) is h = absurd is
early a text m error.Memory is h = absurd is

-- before any entry is looked at
pub refuses_early : (a : Attempt) (text : List ℕ) (m : Meaning) (e : RunError) → (e ≡ error.Memory) ⊎ (IsEarly e × ((n : Meaning) → IsRefused a.program a.term a.args n e))
    → (placed e 0 [] ≡ fail.Memory) ⊎ IsRunRefused a text (placed e 0 [])
refuses_early a text m e (inl memory) = inl (ap (λ r. placed r 0 []) memory)
refuses_early a text m e (inr h) = inr (early a text m e h.0 (h.1 m))

-- under the answers of forms
pub refuses : (a : Attempt) (text : List ℕ) (forms : List Form) (end : ℕ) (e : RunError) → SpellsForms text forms → end ≡ length text
    → (e ≡ error.Memory) ⊎ IsRefused a.program a.term a.args (answers_at a.env forms) e → (placed e end forms ≡ fail.Memory) ⊎ IsRunRefused a text (placed e end forms)
refuses a text forms end e spelt ends (inl memory) = inl (ap (λ r. placed r end forms) memory)
refuses a text forms end error.NoTerm spelt ends (inr h) = inr (no_term (answers_at a.env forms) h)
refuses a text forms end error.ArgCount spelt ends (inr h) = inr (arg_count (answers_at a.env forms) h)
refuses a text forms end (error.ArgType i) spelt ends (inr h) = inr (arg_type (answers_at a.env forms) i h)
refuses a text forms end (error.BadAnswers i) spelt ends (inr h) =
    inr (subst (λ n. IsRunRefused a text (fail.BadAnswers (place_at n forms i))) (sym ends) (wrong forms i spelt h))
refuses a text forms end error.Memory spelt ends (inr h) = inl refl

-- a constant that is left out
pub refuses_left : (a : Attempt) (text : List ℕ) (forms : List Form) (end : ℕ) (m : Meaning) (left : Bool) → SpellsForms text forms → end ≡ length text → m ≡ answers_at a.env forms → Runs a.program a.term a.args m → left ≡ leave_out a m → left ≡ true
    → IsRunRefused a text (fail.BadAnswers end)
refuses_left a text forms end m left spelt ends same runs is out =
    subst (λ n. IsRunRefused a text (fail.BadAnswers n)) (sym ends) (left_out forms spelt (subst (Runs a.program a.term a.args) same runs) (ap (leave_out a) (sym same) ∙ sym is ∙ out))

-- a run under forms that leave none out
pub under_forms : (a : Attempt) (forms : List Form) (m : Meaning) (held : ℕ) (left : Bool) (r : Ran) → m ≡ answers_at a.env forms → held ≡ held_at forms → Runs a.program a.term a.args m → left ≡ leave_out a m → left ≡ false
    → run a.program a.term a.args m held ≡ Some r → IsUnder a forms r
under_forms a forms m held left r same room fits is kept runs = record {
  fits = subst (Runs a.program a.term a.args) same fits;
  given = ap (leave_out a) (sym same) ∙ sym is ∙ kept;
  runs = ap (run a.program a.term a.args (answers_at a.env forms)) (sym room) ∙ ap (λ n. run a.program a.term a.args n held) (sym same) ∙ runs;
}
