-- Where nothing is refused the function has a run.
use Rattle.std.proofs.Common.{◌≡◌, ℕ, List, [], ◌∷◌, length, Bool, true, false, Option, Some, None, refl, sym, ap, ◌∙◌, subst}
use Rattle.std.specs.Prelude.{◌==◌, Contains, option_map, if◌then◌else◌}
use Rattle.std.specs.List.{AllByRecursion}
use Rattle.std.proofs.lemmas.List.{length-map}
use Rattle.isle_core.specs.declared.values.Callee.{Callee}
use Rattle.isle_core.specs.declared.values.Callee.TheVariants as callee
use Rattle.isle_core.specs.Value.{Value, Made, Ran}
use Rattle.isle_core.specs.Meaning.{Meaning}
use Rattle.isle_core.specs.Answered.{answer_held, answer}
use Rattle.isle_printer.specs.Bytes.{same_bytes}
use Rattle.isle_tree.specs.declared.holds.Holds.{Holds}
use Rattle.isle_tree.specs.declared.holds.Item.TheVariants as item
use Rattle.isle_tree.specs.declared.tree.Ty.{Ty}
use Rattle.isle_tree.specs.declared.tree.TraitFn.{TraitFn}
use Rattle.isle_tree.specs.Program.{Function, Program}
use Rattle.isle_tree.specs.WellFormed.{IsFunction, IsWellFormed, IsBodyScoped, trait_fn, results_item, kind_holds, call_holds, head_holds, function_head, callables}
use Rattle.isle_tree.specs.Run.{Around, nothing_done, function_of, around, function_run, run}
use Rattle.isle_places.specs.Signatures.{trait_signature, term_signature, signature_of, type_names}
use Rattle.isle_interpreter.specs.Ends.{EndFits}
use Rattle.isle_interpreter.specs.Entries.{entries, IsUnanswered, AreRight}
use Rattle.isle_tree.specs.Calls.{body_calls}
use Rattle.isle_interpreter.specs.Refusals.{MayRun}
use Rattle.isle_tree.proofs.FindHeads.{first_head}
use Rattle.isle_interpreter.proofs.AnswersHold.{HoldsIn, answer_fits, named_length, answer_holds}
use Rattle.isle_interpreter.proofs.Progress.{function_ends}
use Rattle.isle_interpreter.proofs.WellFlows.{Answering}

-- there is a run, which ends as the function's kind does
pub record HasRun (p : Program) (term : List ℕ) (args : List Value) (m : Meaning) (held : ℕ) (f : Function) : Type 0 where
  pub ran : Ran
  pub is : run p term args m held ≡ Some ran
  pub fits : EndFits f.kind ran.end

pub found_function : (p : Program) (term : List ℕ) (fs : List Function) (f : Function) → AllByRecursion (IsFunction p) fs → function_of term fs ≡ Some f → IsFunction p f
found_function p term [] f h e = absurd cc
found_function p term (g ∷ fs) f h e = by (same_bytes term g.term) (found_function p term fs f h.1) e
  where
    by : (b : Bool) → (function_of term fs ≡ Some f → IsFunction p f) → (if b then Some g else function_of term fs) ≡ Some f → IsFunction p f
    by true go e = let same : g ≡ f = cc in subst (IsFunction p) same h.0
    by false go e = go e

-- a function of the trait that is called answers with its kind and its results
fn_answers : (p : Program) (k : Function) (m : Meaning) (name : List ℕ) (o : Option TraitFn) → trait_fn p.trait_fns name ≡ o → AreRight p k m [] (entries m) → (IsUnanswered (callee.External name) (entries m) → ⊥)
    → (count : ℕ) (h : Holds) → call_holds o count ≡ Some h → (vs : List Value) (made : List Made) → HoldsIn h (answer_held (answer m (callee.External name) vs made))
fn_answers p k m name None e right some count h f vs made = absurd cc
fn_answers p k m name (Some g) e right some count h f vs made = by (length g.params == count) f
  where
    is : signature_of p (callee.External name) ≡ Some (trait_signature g)
    is = ap (λ (o : Option TraitFn). option_map trait_signature o) e

    by : (b : Bool) → (if b then Some (kind_holds g.kind (results_item g.results)) else None) ≡ Some h → HoldsIn h (answer_held (answer m (callee.External name) vs made))
    by true is_so =
        let same : kind_holds g.kind (results_item g.results) ≡ h = cc in
        subst (λ x. HoldsIn x (answer_held (answer m (callee.External name) vs made))) same
        (answer_holds p.types (trait_signature g) (answer m (callee.External name) vs made) (answer_fits p k m (callee.External name) (trait_signature g) right some is vs made))
    by false is_so = absurd cc

-- and so does the function of a term
term_answers : (p : Program) (k : Function) (m : Meaning) (term : List ℕ) (o : Option Function) → function_of term p.fns ≡ o → AreRight p k m [] (entries m) → (IsUnanswered (callee.Internal term) (entries m) → ⊥)
    → (count : ℕ) (h : Holds) → head_holds (option_map function_head o) count ≡ Some h → (vs : List Value) (made : List Made) → HoldsIn h (answer_held (answer m (callee.Internal term) vs made))
term_answers p k m term None e right some count h f vs made = absurd cc
term_answers p k m term (Some g) e right some count h f vs made = by (length g.params == count) f
  where
    is : signature_of p (callee.Internal term) ≡ Some (term_signature g)
    is = ap (λ (o : Option Function). option_map term_signature o) e

    by : (b : Bool) → (if b then Some (kind_holds g.kind item.Value) else None) ≡ Some h → HoldsIn h (answer_held (answer m (callee.Internal term) vs made))
    by true is_so =
        let same : kind_holds g.kind item.Value ≡ h = cc in
        subst (λ x. HoldsIn x (answer_held (answer m (callee.Internal term) vs made))) same
        (answer_holds p.types (term_signature g) (answer m (callee.Internal term) vs made) (answer_fits p k m (callee.Internal term) (term_signature g) right some is vs made))
    by false is_so = absurd cc

-- all that a function calls answers so
answering : (p : Program) (m : Meaning) (f : Function) → AreRight p f m [] (entries m) → ((c : Callee) → Contains (body_calls f.body) c → IsUnanswered c (entries m) → ⊥)
    → Answering (callables p) m (body_calls f.body)
answering p m f right some (callee.External name) k count h e vs made = fn_answers p f m name (trait_fn p.trait_fns name) refl right (some (callee.External name) k) count h e vs made
answering p m f right some (callee.Internal term) k count h e vs made =
    term_answers p f m term (function_of term p.fns) refl right (some (callee.Internal term) k) count h (ap (λ o. head_holds o count) (first_head term p.fns) ∙ e) vs made

-- in a well-formed program
pub runs : (p : Program) (term : List ℕ) (args : List Value) (m : Meaning) (held : ℕ) (f : Function) → IsWellFormed p → MayRun p term args m f → HasRun p term args m held f
runs p term args m held f well may =
    let is : IsFunction p f = found_function p term p.fns f well.fns may.found in
    let count : length args ≡ length f.params = named_length p.types (type_names f.params) args may.typed ∙ length-map f.params (λ (ty : Ty). ty.name) in
    let scoped : IsBodyScoped (callables p) f.kind (length args) [] f.body = subst (λ n. IsBodyScoped (callables p) f.kind n [] f.body) (sym count) is.scoped in
    let w : Around = around p m args (Some held) f in
    let ends = function_ends (callables p) w refl f.kind f.body [] [] nothing_done is.forms scoped is.fits (answering p m f may.right may.answered) tt in
    record { ran = ends.ran; is = ap (function_run p m held args) may.found ∙ ends.is; fits = ends.fits }
