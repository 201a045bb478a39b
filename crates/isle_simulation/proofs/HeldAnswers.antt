-- What a call is answered stands for its path.
use Rattle.std.proofs.Common.{◌≡◌, ℕ, List, [], ◌∷◌, map, Option, Some, None, refl, sym, ap, ◌∙◌, subst}
use Rattle.std.specs.Prelude.{IsSomeAnd, option_map, slice_get}
use Rattle.std.specs.List.{AllByRecursion}
use Rattle.std.proofs.lemmas.Option.{same_Some}
use Rattle.isle_core.specs.declared.types.ReturnKind.{ReturnKind}
use Rattle.isle_core.specs.declared.types.ReturnKind.TheVariants as return_kind
use Rattle.isle_core.specs.declared.TermId.{TermId}
use Rattle.isle_core.specs.declared.TypeId.{TypeId}
use Rattle.isle_core.specs.declared.types.Term.{Term}
use Rattle.isle_core.specs.declared.values.Callee.{Callee}
use Rattle.isle_core.specs.Value.{Value}
use Rattle.isle_core.specs.Answered.{AValue, item_of}
use Rattle.isle_core.specs.Calling.{ByTurns, ByCases, calling, extracting}
use Rattle.isle_core.specs.HasType.{HaveTypes}
use Rattle.isle_core.specs.Path.{Path, Paths, Extracted, Called}
use Rattle.isle_core.specs.ValueAt.{Held, Optional, Listed, an_option}
use Rattle.isle_core.specs.ExternalCall.{IsCall, IsExtraction}
use Rattle.isle_core.specs.PathType.{IsPathOf, ArePathsOf}
use Rattle.isle_core.specs.Rule.{Environment}
use Rattle.isle_core.proofs.AnsweredTerms as turn_kind
use Rattle.isle_core.proofs.AnsweredTerms.{IsItemOf, IsHeldOf}
use Rattle.isle_simulation.proofs.AnsweredByCase.{HoldsResults}
use Rattle.isle_simulation.proofs.BoundTests.{found}
use Rattle.isle_core.proofs.HeldStays.{IsThere}
use Rattle.isle_simulation.proofs.LocalsAgree.{Stands}
use Rattle.isle_simulation.proofs.ResultsAt.{AreResultsAt, value_of_one}

-- ---- turns

-- what is held of one type is of an equal one
typed_as : (env : Environment) (o : Option Term) (h : Held) (ty : TypeId) (P : Term → Type 0) → IsSomeAnd o (λ (c : Term). IsHeldOf env c.ret_ty h) → IsSomeAnd o (λ (c : Term). (c.ret_ty ≡ ty) × P c) → IsHeldOf env ty h
typed_as env None h ty P a b = absurd a
typed_as env (Some c) h ty P a b = subst (λ x. IsHeldOf env x h) b.0 a

-- results of one value of the type of a term that is there
-- so of the items of a list
listed_within : (env : Environment) (o : Option Term) (h : Held) (tys : List TypeId) (P : Term → Type 0) (vs : List Value) → h ≡ Listed (map AValue vs) → IsSomeAnd o (λ (c : Term). IsHeldOf env c.ret_ty h) → IsSomeAnd o (λ (c : Term). (c.ret_ty ∷ [] ≡ tys) × P c)
    → AllByRecursion (λ ws. HaveTypes env ws tys) (map (λ v. v ∷ []) vs)
listed_within env None h tys P vs is a b = absurd a
listed_within env (Some c) h tys P vs is a b = subst (λ ts. AllByRecursion (λ ws. HaveTypes env ws ts) (map (λ v. v ∷ []) vs)) b.0 (each vs (subst (IsHeldOf env c.ret_ty) is a))
  where
    each : (ws : List Value) → AllByRecursion (IsItemOf env c.ret_ty) (map AValue ws) → AllByRecursion (λ xs. HaveTypes env xs (c.ret_ty ∷ [])) (map (λ v. v ∷ []) ws)
    each [] k = tt
    each (w ∷ ws) k = ((k.0, tt), each ws k.1)

-- values as the one results of items
values_listed : (vs : List Value) → map AValue vs ≡ map item_of (map (λ v. v ∷ []) vs)
values_listed [] = refl
values_listed (v ∷ vs) = ap (λ is. AValue v ∷ is) (values_listed vs)

typed_within : (env : Environment) (o : Option Term) (h : Held) (tys : List TypeId) (P : Term → Type 0) (v : Value) → h ≡ an_option (Some v) → IsSomeAnd o (λ (c : Term). IsHeldOf env c.ret_ty h) → IsSomeAnd o (λ (c : Term). (c.ret_ty ∷ [] ≡ tys) × P c) → HaveTypes env (v ∷ []) tys
typed_within env None h tys P v is a b = absurd a
typed_within env (Some c) h tys P v is a b = subst (HaveTypes env (v ∷ [])) b.0 (subst (IsHeldOf env c.ret_ty) is a, tt)

-- a value as the one result
abbrev one_result : Option Value → Option (List Value)
one_result o = option_map (λ v. v ∷ []) o

one_held : (o : Option Value) → an_option o ≡ Optional (option_map item_of (one_result o))
one_held None = refl
one_held (Some v) = refl

-- a place that holds what a call of the kind is answered
pub held_kind : (kind : ReturnKind) (h g : Held) → g ≡ h → turn_kind.IsOfKind kind h → (env : Environment) (t : Term) (term : TermId) (callee : Callee) → calling env term ≡ ByTurns callee kind → IsSomeAnd (slice_get env.terms term.0) (λ (c : Term). IsHeldOf env c.ret_ty h) → (ps : Paths) (k : ℕ) → Stands env t (Called term ps k) h g
held_kind return_kind.Plain h g there is env t term callee c typed ps k = record {
  value = λ ty of. record { v = is.0; r = is.0; run = is.1; block = there ∙ is.1; same = refl; typed = subst (IsHeldOf env ty) is.1 (typed_as env (slice_get env.terms term.0) h ty (λ (x : Term). ArePathsOf env t ps x.arg_tys) typed of.1) };
  tuple = λ tys of. absurd of;
  option = λ tys of. absurd (let call : return_kind.Plain ≡ return_kind.Option = subst (IsCall return_kind.Option) c of.0 in cc);
  list = λ tys of. absurd (let call : return_kind.Plain ≡ return_kind.Iterator = subst (IsCall return_kind.Iterator) c of.0 in cc);
}
held_kind return_kind.Option h g there is env t term callee c typed ps k = record {
  value = λ ty of. absurd (let call : return_kind.Option ≡ return_kind.Plain = subst (IsCall return_kind.Plain) c of.0 in cc);
  tuple = λ tys of. absurd of;
  option = λ tys of. record { o = one_result is.0; q = one_result is.0; run = is.1 ∙ one_held is.0; block = there ∙ is.1 ∙ one_held is.0; same = refl; typed = λ vs e. each tys of.1 is.0 refl vs e };
  list = λ tys of. absurd (let call : return_kind.Option ≡ return_kind.Iterator = subst (IsCall return_kind.Iterator) c of.0 in cc);
}
  where
    each : (tys : List TypeId) → IsSomeAnd (slice_get env.terms term.0) (λ (x : Term). (x.ret_ty ∷ [] ≡ tys) × ArePathsOf env t ps x.arg_tys) → (o : Option Value) → is.0 ≡ o → (vs : List Value) → one_result is.0 ≡ Some vs → HaveTypes env vs tys
    each tys of None same vs e = let bad : None ≡ Some vs = ap one_result (sym same) ∙ e in cc
    each tys of (Some v) same vs e =
        let there' : v ∷ [] ≡ vs = same_Some (v ∷ []) vs (ap one_result (sym same) ∙ e) in
        subst (λ xs. HaveTypes env xs tys) there' (typed_within env (slice_get env.terms term.0) h tys (λ (x : Term). ArePathsOf env t ps x.arg_tys) v (is.1 ∙ ap an_option same) typed of)
held_kind return_kind.Iterator h g there is env t term callee c typed ps k = record {
  value = λ ty of. absurd (let call : return_kind.Iterator ≡ return_kind.Plain = subst (IsCall return_kind.Plain) c of.0 in cc);
  tuple = λ tys of. absurd of;
  option = λ tys of. absurd (let call : return_kind.Iterator ≡ return_kind.Option = subst (IsCall return_kind.Option) c of.0 in cc);
  list = λ tys of. record {
    vss = map (λ v. v ∷ []) is.0;
    rss = map (λ v. v ∷ []) is.0;
    run = is.1 ∙ ap Listed (values_listed is.0);
    block = there ∙ is.1 ∙ ap Listed (values_listed is.0);
    same = refl;
    typed = listed_within env (slice_get env.terms term.0) h tys (λ (x : Term). ArePathsOf env t ps x.arg_tys) is.0 is.1 typed of.1;
  };
}

pub kind_there : (kind : ReturnKind) (h : Held) → turn_kind.IsOfKind kind h → IsThere h
kind_there return_kind.Plain h is = subst IsThere (sym is.1) tt
kind_there return_kind.Option h is = subst IsThere (sym is.1) tt
kind_there return_kind.Iterator h is = subst IsThere (sym is.1) tt

-- ---- cases

-- something stands there
pub results_there : (env : Environment) (kind : ReturnKind) (tys : List TypeId) (h : Held) → HoldsResults env kind tys h → IsThere h
results_there env return_kind.Plain tys h is = subst IsThere (sym is.1) tt
results_there env return_kind.Option tys h is = subst IsThere (sym is.1) tt
results_there env return_kind.Iterator tys h is = subst IsThere (sym is.1) tt

-- what is said of a term that is there
said_of : {A : Type 0} (f : Term → A) (o : Option Term) (called : Term) (x : A) (P : Term → Type 0) → o ≡ Some called → IsSomeAnd o (λ (c : Term). (f c ≡ x) × P c) → f called ≡ x
said_of f None called x P e h = absurd h
said_of f (Some c) called x P e h = ap f (sym (same_Some c called e)) ∙ h.0

-- a place that holds what a pure term of the kind answers
pub held_case : (kind : ReturnKind) (h g : Held) → g ≡ h → (env : Environment) (t : Term) (term : TermId) (callee : Callee) (called : Term)
    → calling env term ≡ ByCases callee kind → slice_get env.terms term.0 ≡ Some called → HoldsResults env kind (called.ret_ty ∷ []) h → (ps : Paths) (k : ℕ) → Stands env t (Called term ps k) h g
held_case return_kind.Plain h g there env t term callee called c found is ps k = record {
  value = λ ty of. value_of_one env h g ty (results (ty ∷ []) (ap (λ x. x ∷ []) (said_of (λ (x : Term). x.ret_ty) (slice_get env.terms term.0) called ty (λ (x : Term). ArePathsOf env t ps x.arg_tys) found of.1)));
  tuple = λ tys of. absurd of;
  option = λ tys of. absurd (let call : return_kind.Plain ≡ return_kind.Option = subst (IsCall return_kind.Option) c of.0 in cc);
  list = λ tys of. absurd (let call : return_kind.Plain ≡ return_kind.Iterator = subst (IsCall return_kind.Iterator) c of.0 in cc);
}
  where
    results : (tys : List TypeId) → called.ret_ty ∷ [] ≡ tys → AreResultsAt env h g tys
    results tys same = record { vs = is.0; rs = is.0; run = is.1; block = there ∙ is.1; same = refl; typed = subst (HaveTypes env is.0) same is.2 }
held_case return_kind.Option h g there env t term callee called c found is ps k = record {
  value = λ ty of. absurd (let call : return_kind.Option ≡ return_kind.Plain = subst (IsCall return_kind.Plain) c of.0 in cc);
  tuple = λ tys of. absurd of;
  option = λ tys of.
      let same = said_of (λ (x : Term). x.ret_ty ∷ []) (slice_get env.terms term.0) called tys (λ (x : Term). ArePathsOf env t ps x.arg_tys) found of.1 in
      record { o = is.0; q = is.0; run = is.1; block = there ∙ is.1; same = refl; typed = λ vs e. subst (HaveTypes env vs) same (is.2 vs e) };
  list = λ tys of. absurd (let call : return_kind.Option ≡ return_kind.Iterator = subst (IsCall return_kind.Iterator) c of.0 in cc);
}
held_case return_kind.Iterator h g there env t term callee called c found is ps k = record {
  value = λ ty of. absurd (let call : return_kind.Iterator ≡ return_kind.Plain = subst (IsCall return_kind.Plain) c of.0 in cc);
  tuple = λ tys of. absurd of;
  option = λ tys of. absurd (let call : return_kind.Iterator ≡ return_kind.Option = subst (IsCall return_kind.Option) c of.0 in cc);
  list = λ tys of.
      let same = said_of (λ (x : Term). x.ret_ty ∷ []) (slice_get env.terms term.0) called tys (λ (x : Term). ArePathsOf env t ps x.arg_tys) found of.1 in
      record { vss = is.0; rss = is.0; run = is.1; block = there ∙ is.1; same = refl; typed = subst (λ ts. AllByRecursion (λ vs. HaveTypes env vs ts) is.0) same is.2 };
}

-- ---- extractors

-- the results of a term that is there
pub results_are : (o : Option Term) (called : Term) (tys : List TypeId) (P : Term → Type 0) → o ≡ Some called → IsSomeAnd o (λ (c : Term). (c.arg_tys ≡ tys) × P c) → called.arg_tys ≡ tys
results_are o called tys P e h = said_of (λ (x : Term). x.arg_tys) o called tys P e h

-- a place that holds what an extractor of the kind answers
pub held_extracted : (kind : ReturnKind) (h g : Held) → g ≡ h → (env : Environment) (t : Term) (term : TermId) (callee : Callee) (called : Term)
    → extracting env term ≡ ByCases callee kind → slice_get env.terms term.0 ≡ Some called → HoldsResults env kind called.arg_tys h → (q : Path) → Stands env t (Extracted term q) h g
held_extracted return_kind.Plain h g there env t term callee called c found is q = record {
  value = λ ty of. value_of_one env h g ty (results (ty ∷ []) of.1);
  tuple = λ tys of. results tys of.2;
  option = λ tys of. absurd (let call : IsExtraction return_kind.Option (ByCases callee return_kind.Plain) = subst (IsExtraction return_kind.Option) c of.0 in let k = call.0 in cc);
  list = λ tys of. absurd (let call : IsExtraction return_kind.Iterator (ByCases callee return_kind.Plain) = subst (IsExtraction return_kind.Iterator) c of.0 in let k = call.0 in cc);
}
  where
    results : (tys : List TypeId) → IsSomeAnd (slice_get env.terms term.0) (λ (x : Term). (x.arg_tys ≡ tys) × IsPathOf env t q x.ret_ty) → AreResultsAt env h g tys
    results tys of = record { vs = is.0; rs = is.0; run = is.1; block = there ∙ is.1; same = refl; typed = subst (HaveTypes env is.0) (results_are (slice_get env.terms term.0) called tys (λ (x : Term). IsPathOf env t q x.ret_ty) found of) is.2 }
held_extracted return_kind.Option h g there env t term callee called c found is q = record {
  value = λ ty of. absurd (let call : IsExtraction return_kind.Plain (ByCases callee return_kind.Option) = subst (IsExtraction return_kind.Plain) c of.0 in let k = call.0 in cc);
  tuple = λ tys of. absurd (let call : IsExtraction return_kind.Plain (ByCases callee return_kind.Option) = subst (IsExtraction return_kind.Plain) c of.1 in let k = call.0 in cc);
  option = λ tys of.
      let same = results_are (slice_get env.terms term.0) called tys (λ (x : Term). IsPathOf env t q x.ret_ty) found of.1 in
      record { o = is.0; q = is.0; run = is.1; block = there ∙ is.1; same = refl; typed = λ vs e. subst (HaveTypes env vs) same (is.2 vs e) };
  list = λ tys of. absurd (let call : IsExtraction return_kind.Iterator (ByCases callee return_kind.Option) = subst (IsExtraction return_kind.Iterator) c of.0 in let k = call.0 in cc);
}
held_extracted return_kind.Iterator h g there env t term callee called c found is q = record {
  value = λ ty of. absurd (let call : IsExtraction return_kind.Plain (ByCases callee return_kind.Iterator) = subst (IsExtraction return_kind.Plain) c of.0 in let k = call.0 in cc);
  tuple = λ tys of. absurd (let call : IsExtraction return_kind.Plain (ByCases callee return_kind.Iterator) = subst (IsExtraction return_kind.Plain) c of.1 in let k = call.0 in cc);
  option = λ tys of. absurd (let call : IsExtraction return_kind.Option (ByCases callee return_kind.Iterator) = subst (IsExtraction return_kind.Option) c of.0 in let k = call.0 in cc);
  list = λ tys of.
      let same = results_are (slice_get env.terms term.0) called tys (λ (x : Term). IsPathOf env t q x.ret_ty) found of.1 in
      record { vss = is.0; rss = is.0; run = is.1; block = there ∙ is.1; same = refl; typed = subst (λ ts. AllByRecursion (λ vs. HaveTypes env vs ts) is.0) same is.2 };
}
