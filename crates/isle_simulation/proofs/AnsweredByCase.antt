-- An extractor, or a pure term, is answered by the same case in a run and where a block runs.
use Rattle.std.proofs.Common.{◌≡◌, List, [], ◌∷◌, map, cond, ◌&&◌, Option, Some, None, refl, ap, ◌∙◌, subst}
use Rattle.std.specs.Prelude.{IsSomeAnd, find, option_map, slice_get}
use Rattle.std.specs.List.{AllByRecursion}
use Rattle.std.proofs.lemmas.Option.{same_Some}
use Rattle.isle_core.specs.declared.TermId.{TermId}
use Rattle.isle_core.specs.declared.TypeId.{TypeId}
use Rattle.isle_core.specs.declared.types.ReturnKind.{ReturnKind}
use Rattle.isle_core.specs.declared.types.ReturnKind.TheVariants as return_kind
use Rattle.isle_core.specs.declared.types.Term.{Term}
use Rattle.isle_core.specs.declared.values.Callee.{Callee}
use Rattle.isle_core.specs.Answered.{answer_held, answer_by, answer, item_of}
use Rattle.isle_core.specs.CalledTerms.{Extractor}
use Rattle.isle_core.specs.Calling.{ByCases, calling, extracting}
use Rattle.isle_core.specs.HasType.{HaveTypes}
use Rattle.isle_core.specs.Lawful.{Fits, CallingFits, RoleFits, AnswersFit}
use Rattle.isle_core.specs.Meaning.{PureAnswers, Meaning, case, case_at, case_or, cases_of, same_values}
use Rattle.isle_core.specs.Nameless.{nameless}
use Rattle.isle_core.specs.Rule.{Environment}
use Rattle.isle_core.specs.SameInRun.{same_in_run}
use Rattle.isle_core.specs.Value.{Value, Answer, Plain, Found, Nothing, Several, Made}
use Rattle.isle_core.specs.ValueAt.{Held, One, Optional, Listed}
use Rattle.isle_core.proofs.PatternTests.{case_fits}
use Rattle.isle_simulation.proofs.NamelessLaws.{like_same}

-- ---- one case for values that are the same but for names

values_like : (ws rs vs : List Value) → map nameless rs ≡ map nameless vs → same_values ws rs ≡ same_values ws vs
values_like [] [] [] e = refl
values_like (w ∷ ws) (r ∷ rs) (v ∷ vs) e =
    let first : nameless r ≡ nameless v = cc in
    let rest : map nameless rs ≡ map nameless vs = cc in
    ap (λ b. b && same_values ws rs) (like_same w r w v refl first) ∙ ap (λ b. same_in_run w v && b) (values_like ws rs vs rest)
values_like [] (r ∷ rs) (v ∷ vs) e = refl
values_like (w ∷ ws) [] [] e = refl
values_like ws [] (v ∷ vs) e = cc
values_like ws (r ∷ rs) [] e = cc

found_like : (cases : List (List Value × Answer)) (rs vs : List Value) → map nameless rs ≡ map nameless vs → find (λ (c : List Value × Answer). same_values c.0 rs) cases ≡ find (λ (c : List Value × Answer). same_values c.0 vs) cases
found_like [] rs vs e = refl
found_like (c ∷ cases) rs vs e =
    ap (λ b. cond b (Some c) (find (λ (d : List Value × Answer). same_values d.0 rs) cases)) (values_like c.0 rs vs e) ∙ ap (λ o. cond (same_values c.0 vs) (Some c) o) (found_like cases rs vs e)

case_at_like : (o : Option PureAnswers) (rs vs : List Value) → map nameless rs ≡ map nameless vs → case_at o rs ≡ case_at o vs
case_at_like None rs vs e = refl
case_at_like (Some a) rs vs e = ap (case_or a.rest) (found_like a.cases rs vs e)

-- ---- a term

-- an answer of a kind with results of these types
abbrev pub HoldsResults : Environment → ReturnKind → List TypeId → Held → Type 0
HoldsResults env return_kind.Plain tys h = (vs : List Value) × (h ≡ One (item_of vs)) × HaveTypes env vs tys
HoldsResults env return_kind.Option tys h = (o : Option (List Value)) × (h ≡ Optional (option_map item_of o)) × ((vs : List Value) → o ≡ Some vs → HaveTypes env vs tys)
HoldsResults env return_kind.Iterator tys h = (items : List (List Value)) × (h ≡ Listed (map item_of items)) × AllByRecursion (λ vs. HaveTypes env vs tys) items

-- what it is called for is answered by its cases, and a case has its kind and types
pub record IsAnsweredByCase (env : Environment) (m : Meaning) (callee : Callee) (kind : ReturnKind) (tys : List TypeId) : Type 0 where
  pub is : (rs vs : List Value) (made : List Made) → map nameless rs ≡ map nameless vs → answer m callee rs made ≡ case m callee vs
  pub holds : (vs : List Value) → HoldsResults env kind tys (answer_held (case m callee vs))

fits_holds : (env : Environment) (kind : ReturnKind) (tys : List TypeId) (a : Answer) → Fits env kind tys a → HoldsResults env kind tys (answer_held a)
fits_holds env return_kind.Plain tys (Plain vs) h = (vs, refl, h)
fits_holds env return_kind.Option tys (Found vs) h = (Some vs, refl, λ ws e. subst (λ xs. HaveTypes env xs tys) (same_Some vs ws e) h)
fits_holds env return_kind.Option tys Nothing h = (None, refl, λ ws e. cc)
fits_holds env return_kind.Iterator tys (Several items) h = (items, refl, h)
fits_holds env kind tys a h = absurd h

cases_answer : (env : Environment) (m : Meaning) (callee : Callee) (kind : ReturnKind) (tys : List TypeId) → CallingFits env m tys (ByCases callee kind) → IsAnsweredByCase env m callee kind tys
cases_answer env m callee kind tys h = record {
  is = λ rs vs made e. ap (λ o. answer_by o m callee rs made) h.1 ∙ case_at_like (cases_of m callee) rs vs e;
  holds = λ vs. fits_holds env kind tys (case m callee vs) (case_fits env tys kind (cases_of m callee) vs h.0);
}

-- so of a pure term
pub constructor_answers : (env : Environment) (m : Meaning) (term : TermId) (callee : Callee) (kind : ReturnKind) (called : Term)
    → AnswersFit env m term → calling env term ≡ ByCases callee kind → slice_get env.terms term.0 ≡ Some called → IsAnsweredByCase env m callee kind (called.ret_ty ∷ [])
constructor_answers env m term callee kind called h c found =
    let here : CallingFits env m (called.ret_ty ∷ []) (calling env term) = subst (λ o. IsSomeAnd o (λ (t : Term). CallingFits env m (t.ret_ty ∷ []) (calling env term))) found h in
    cases_answer env m callee kind (called.ret_ty ∷ []) (subst (CallingFits env m (called.ret_ty ∷ [])) c here)

-- and of the extractor of a term
pub extractor_answers : (env : Environment) (m : Meaning) (term : TermId) (callee : Callee) (kind : ReturnKind) (called : Term)
    → RoleFits env m term Extractor → extracting env term ≡ ByCases callee kind → slice_get env.terms term.0 ≡ Some called → IsAnsweredByCase env m callee kind called.arg_tys
extractor_answers env m term callee kind called h c found =
    let here : CallingFits env m called.arg_tys (extracting env term) = subst (λ o. IsSomeAnd o (λ (t : Term). CallingFits env m t.arg_tys (extracting env term))) found h in
    cases_answer env m callee kind called.arg_tys (subst (CallingFits env m called.arg_tys) c here)
