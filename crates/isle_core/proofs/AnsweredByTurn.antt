-- A lawful impure callee is answered by its turn.
use Rattle.std.proofs.Common.{◌≡◌, List, [], ◌∷◌, Option, Some, None, refl, subst}
use Rattle.std.specs.Prelude.{All, IsSomeAnd, slice_get}
use Rattle.isle_base.specs.declared.ids.TermId.{TermId}
use Rattle.isle_base.specs.declared.ids.TypeId.{TypeId}
use Rattle.isle_core.specs.declared.types.Term.{Term}
use Rattle.isle_core.specs.declared.values.Callee.{Callee}
use Rattle.isle_core.specs.declared.types.ReturnKind.{ReturnKind}
use Rattle.isle_core.specs.Value.{Value, Made}
use Rattle.isle_core.specs.Meaning.{Meaning, TurnAnswers, turns_of, turn_at, times, turn}
use Rattle.isle_core.specs.Answered.{answer_held, answer_by, answer}
use Rattle.isle_core.specs.Calling.{Calling, ByTurns, calling}
use Rattle.isle_core.specs.Lawful.{Fits, all_turns, CallingFits, AnswersFit}
use Rattle.isle_core.specs.Rule.{Environment}
use Rattle.isle_core.proofs.AnsweredTerms.{IsOfKind, IsHeldOf, turns_fit, turn_type}

-- the turns of a callee fit, for a type
record TurnsFit (env : Environment) (m : Meaning) (callee : Callee) (kind : ReturnKind) : Type 0 where
  ty : TypeId
  fits : CallingFits env m (ty ∷ []) (ByTurns callee kind)

turns_of_term : (env : Environment) (m : Meaning) (o : Option Term) (c : Calling) (callee : Callee) (kind : ReturnKind) → IsSomeAnd o (λ (t : Term). CallingFits env m (t.ret_ty ∷ []) c) → c ≡ ByTurns callee kind → TurnsFit env m callee kind
turns_of_term env m None c callee kind h e = absurd h
turns_of_term env m (Some t) c callee kind h e = record { ty = t.ret_ty; fits = subst (CallingFits env m (t.ret_ty ∷ [])) e h }

answered_by_turn : (m : Meaning) (callee : Callee) (vs : List Value) (made : List Made) (o : Option TurnAnswers) (P : TurnAnswers → Type 0) → IsSomeAnd o P → answer_by o m callee vs made ≡ turn_at o (times callee made)
answered_by_turn m callee vs made None P h = absurd h
answered_by_turn m callee vs made (Some a) P h = refl

-- a lawful callee that takes turns is answered by its turn
pub turn_is : (env : Environment) (m : Meaning) (term : TermId) (callee : Callee) (kind : ReturnKind) → AnswersFit env m term → calling env term ≡ ByTurns callee kind → (vs : List Value) (made : List Made) → answer m callee vs made ≡ turn m callee made
turn_is env m term callee kind h e vs made =
    let f = turns_of_term env m (slice_get env.terms term.0) (calling env term) callee kind h e in
    answered_by_turn m callee vs made (turns_of m callee) (λ a. All (Fits env kind (f.ty ∷ [])) (all_turns a)) f.fits

-- and the turn is of the term's kind
pub turn_held : (env : Environment) (m : Meaning) (term : TermId) (callee : Callee) (kind : ReturnKind) → AnswersFit env m term → calling env term ≡ ByTurns callee kind → (made : List Made) → IsOfKind kind (answer_held (turn m callee made))
turn_held env m term callee kind h e = turns_fit env m f.ty callee kind f.fits
  where
    f : TurnsFit env m callee kind
    f = turns_of_term env m (slice_get env.terms term.0) (calling env term) callee kind h e

typed_turn : (env : Environment) (m : Meaning) (o : Option Term) (c : Calling) (callee : Callee) (kind : ReturnKind) → IsSomeAnd o (λ (t : Term). CallingFits env m (t.ret_ty ∷ []) c) → c ≡ ByTurns callee kind
    → (made : List Made) → IsSomeAnd o (λ (t : Term). IsHeldOf env t.ret_ty (answer_held (turn m callee made)))
typed_turn env m None c callee kind h e made = absurd h
typed_turn env m (Some t) c callee kind h e made =
    let fits : CallingFits env m (t.ret_ty ∷ []) (ByTurns callee kind) = subst (CallingFits env m (t.ret_ty ∷ [])) e h in
    turn_type env t.ret_ty kind (turns_of m callee) (times callee made) fits

-- and of the term's type
pub turn_typed : (env : Environment) (m : Meaning) (term : TermId) (callee : Callee) (kind : ReturnKind) → AnswersFit env m term → calling env term ≡ ByTurns callee kind
    → (made : List Made) → IsSomeAnd (slice_get env.terms term.0) (λ (t : Term). IsHeldOf env t.ret_ty (answer_held (turn m callee made)))
turn_typed env m term callee kind h e = typed_turn env m (slice_get env.terms term.0) (calling env term) callee kind h e
