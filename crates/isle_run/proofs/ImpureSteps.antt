-- A call more in the lines of the calls of impure terms.
use Rattle.std.proofs.Common.{◌≡◌, ℕ, ◌+◌, ◌<◌, List, [], ◌∷◌, ◌++◌, length, drop, get_or, map, Bool, true, false, cond, refl, sym, ap, ◌∙◌, append_assoc}
use Rattle.std.specs.Prelude.{filter, is_some}
use Rattle.std.proofs.lemmas.List.{drop_more}
use Rattle.isle_core.specs.declared.values.CallMade.{CallMade}
use Rattle.isle_core.specs.Rule.{Environment}
use Rattle.isle_core.specs.Terms.{impure_calls, is_impure}
use Rattle.isle_core.specs.Value.{Made}
use Rattle.isle_core.specs.ValueViews.{made}
use Rattle.isle_run_inputs.specs.Requested.{answer_type}
use Rattle.isle_outcomes.specs.Lines.{call_line, call_lines}
use Rattle.isle_run.proofs.ImpureCalls.{impure_found}

-- the lines of what is left from a call on
abbrev pub left_lines : Environment → List CallMade → List ℕ
left_lines env calls = call_lines (impure_calls env (map made calls))

by_test : (env : Environment) (b : Bool) (c : Made) (cs : List Made) → call_lines (cond b (c ∷ filter (λ (c : Made). is_impure env c.callee) cs) (filter (λ (c : Made). is_impure env c.callee) cs)) ≡ cond b (call_line c) [] ++ call_lines (impure_calls env cs)
by_test env true c cs = refl
by_test env false c cs = refl

-- the lines of a call and of those after it
pub one_more : (env : Environment) (calls : List CallMade) (i : ℕ) (call : CallMade) → i < length calls → call ≡ get_or calls i call
    → left_lines env (drop i calls) ≡ cond (is_some (answer_type env call.callee)) (call_line (made call)) [] ++ left_lines env (drop (i + 1) calls)
one_more env calls i call lt is =
    ap (left_lines env) (drop_more calls i call lt ∙ ap (λ c. c ∷ drop (i + 1) calls) (sym is))
    ∙ by_test env (is_impure env call.callee) (made call) (map made (drop (i + 1) calls))
    ∙ ap (λ b. cond b (call_line (made call)) [] ++ left_lines env (drop (i + 1) calls)) (sym (impure_found env call.callee))

-- a line more, where the call goes to an impure term
pub lines_step : (env : Environment) (calls : List CallMade) (i : ℕ) (call : CallMade) (before after first : List ℕ) → i < length calls → call ≡ get_or calls i call
    → after ≡ before ++ cond (is_some (answer_type env call.callee)) (call_line (made call)) [] → before ++ left_lines env (drop i calls) ≡ first ++ left_lines env calls
    → after ++ left_lines env (drop (i + 1) calls) ≡ first ++ left_lines env calls
lines_step env calls i call before after first lt is one all =
    ap (λ xs. xs ++ left_lines env (drop (i + 1) calls)) one
    ∙ append_assoc before (cond (is_some (answer_type env call.callee)) (call_line (made call)) []) (left_lines env (drop (i + 1) calls))
    ∙ ap (λ xs. before ++ xs) (sym (one_more env calls i call lt is))
    ∙ all
