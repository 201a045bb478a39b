-- Values, calls and ends that are the same but for the type names of opaque numbers.
use Rattle.std.proofs.Common.{◌≡◌, ℕ, zero, suc, List, [], ◌∷◌, ◌++◌, length, map, Bool, true, false, cond, ◌&&◌, Option, Some, None, refl, sym, ap, ◌∙◌, subst}
use Rattle.std.specs.Prelude.{◌||◌, filter, slice_get}
use Rattle.std.specs.List.{list_any}
use Rattle.std.specs.Str.{bytes_eq}
use Rattle.std.proofs.lemmas.List.{map-append, append-nil}
use Rattle.std.proofs.lemmas.List.Elements.{filter-append}
use Rattle.std.proofs.lemmas.Slice.Eq.{bytes_eq-Decides}
use Rattle.isle_core.specs.declared.TermId.{TermId}
use Rattle.isle_core.specs.declared.TypeId.{TypeId}
use Rattle.isle_core.specs.declared.types.ReturnKind.{ReturnKind}
use Rattle.isle_core.specs.declared.types.Term.{Term}
use Rattle.isle_core.specs.declared.values.Callee.{Callee}
use Rattle.isle_core.specs.declared.values.Callee.TheVariants.{External, Internal}
use Rattle.isle_core.specs.Calling.{ByTurns, NoCall, calling, calling_of, calling_by, pure_callee, kind_of}
use Rattle.isle_core.specs.HasType.{HasType}
use Rattle.isle_core.specs.Meaning.{Meaning, times, turns_of, turn_at, turn}
use Rattle.isle_core.specs.Nameless.{nameless, nameless_fields, nameless_made}
use Rattle.isle_core.specs.Rule.{Environment}
use Rattle.isle_core.specs.SameInRun.{same_in_run, same_fields_in_run}
use Rattle.isle_core.specs.SameValue.{same_value, same_fields}
use Rattle.isle_core.specs.Terms.{goes_to, impure_callee, is_impure, impure_calls}
use Rattle.isle_core.specs.Value.{Value, Truth, Int, Opaque, Variant, Struct, FieldValues, NoField, Field, Made}
use Rattle.isle_core.proofs.ImpureCalls.{goes_there}
use Rattle.isle_core.proofs.RunEquality.{typed_same}

-- ---- equality

mutual
  unfolding same_value same_in_run nameless

  -- a run compares values as if they had no such names
  pub nameless_same : (v w : Value) → same_in_run v w ≡ same_value (nameless v) (nameless w)
  nameless_same (Truth a) (Truth b) = refl
  nameless_same (Int s a) (Int t b) = refl
  nameless_same (Opaque s a) (Opaque t b) = refl
  nameless_same (Variant s a fs) (Variant t b gs) = ap (λ x. bytes_eq s t && bytes_eq a b && x) (nameless_fields_same fs gs)
  nameless_same (Struct s fs) (Struct t gs) = ap (λ x. bytes_eq s t && x) (nameless_fields_same fs gs)
  nameless_same v w = refl

  pub nameless_fields_same : (fs gs : FieldValues) → same_fields_in_run fs gs ≡ same_fields (nameless_fields fs) (nameless_fields gs)
  nameless_fields_same NoField NoField = refl
  nameless_fields_same (Field a v fs) (Field b w gs) =
      ap (λ x. bytes_eq a b && x && same_fields_in_run fs gs) (nameless_same v w) ∙ ap (λ x. bytes_eq a b && same_value (nameless v) (nameless w) && x) (nameless_fields_same fs gs)
  nameless_fields_same fs gs = refl

-- a run compares two values as two that are the same but for names
pub like_same : (r q v w : Value) → nameless r ≡ nameless v → nameless q ≡ nameless w → same_in_run r q ≡ same_in_run v w
like_same r q v w e f = nameless_same r q ∙ ap (λ x. same_value x (nameless q)) e ∙ ap (same_value (nameless v)) f ∙ sym (nameless_same v w)

-- so as the source does, if those are of one type
pub run_same : (env : Environment) (ty : TypeId) (r q v w : Value) → nameless r ≡ nameless v → nameless q ≡ nameless w → HasType env v ty → HasType env w ty → same_in_run r q ≡ same_value v w
run_same env ty r q v w e f h k = like_same r q v w e f ∙ typed_same env v w ty h k

-- ---- calls

-- the calls of impure terms are the same but for names; a run may have others beside
abbrev pub AreSameCalls : Environment → List Made → List Made → Type 0
AreSameCalls env xs ys = map nameless_made (impure_calls env xs) ≡ map nameless_made ys

counted : (b : Bool) (x y : Made) (xs ys : List Made) → length xs ≡ length ys → length (cond b (x ∷ xs) xs) ≡ length (cond b (y ∷ ys) ys)
counted true x y xs ys e = ap suc e
counted false x y xs ys e = e

times_nameless : (callee : Callee) (xs : List Made) → times callee (map nameless_made xs) ≡ times callee xs
times_nameless callee [] = refl
times_nameless callee (x ∷ xs) =
    counted (goes_to callee (Some x.callee)) (nameless_made x) x (filter (λ (c : Made). goes_to callee (Some c.callee)) (map nameless_made xs)) (filter (λ (c : Made). goes_to callee (Some c.callee)) xs) (times_nameless callee xs)

goes_same : (a b : Callee) → goes_to a (Some b) ≡ true → a ≡ b
goes_same (External x) (External y) e = ap External ((bytes_eq-Decides x y).0 e)
goes_same (Internal x) (Internal y) e = ap Internal ((bytes_eq-Decides x y).0 e)
goes_same (External x) (Internal y) e = cc
goes_same (Internal x) (External y) e = cc

-- the calls of pure terms don't count among those of an impure one
times_impure : (env : Environment) (callee : Callee) (xs : List Made) → is_impure env callee ≡ true → times callee (impure_calls env xs) ≡ times callee xs
times_impure env callee [] h = refl
times_impure env callee (x ∷ xs) h = one (is_impure env x.callee) refl (times_impure env callee xs h)
  where
    rest : List Made
    rest = filter (λ (c : Made). goes_to callee (Some c.callee)) xs

    left_out : (b : Bool) → goes_to callee (Some x.callee) ≡ b → is_impure env x.callee ≡ false → length rest ≡ length (cond b (x ∷ rest) rest)
    left_out false e is = refl
    left_out true e is = absurd (let bad : true ≡ false = sym h ∙ ap (is_impure env) (goes_same callee x.callee e) ∙ is in cc)

    one : (b : Bool) → is_impure env x.callee ≡ b → times callee (impure_calls env xs) ≡ times callee xs → times callee (cond b (x ∷ impure_calls env xs) (impure_calls env xs)) ≡ times callee (x ∷ xs)
    one true is k = counted (goes_to callee (Some x.callee)) x x (filter (λ (c : Made). goes_to callee (Some c.callee)) (impure_calls env xs)) rest k
    one false is k = k ∙ left_out (goes_to callee (Some x.callee)) refl is

-- a turn of an impure callee hangs on the callees of such calls alone
pub turn_like : (env : Environment) (m : Meaning) (callee : Callee) (xs ys : List Made) → is_impure env callee ≡ true → AreSameCalls env xs ys → turn m callee xs ≡ turn m callee ys
turn_like env m callee xs ys h e =
    ap (turn_at (turns_of m callee)) (sym (times_impure env callee xs h) ∙ sym (times_nameless callee (impure_calls env xs)) ∙ ap (times callee) e ∙ times_nameless callee ys)

-- a call of an impure term more on both sides
pub impure_push : (env : Environment) (xs ys : List Made) (x y : Made) → is_impure env x.callee ≡ true → AreSameCalls env xs ys → nameless_made x ≡ nameless_made y → AreSameCalls env (xs ++ x ∷ []) (ys ++ y ∷ [])
impure_push env xs ys x y h e f =
    ap (map nameless_made) (filter-append (λ (c : Made). is_impure env c.callee) xs (x ∷ []) ∙ ap (λ b. impure_calls env xs ++ cond b (x ∷ []) []) h)
    ∙ map-append nameless_made (impure_calls env xs) (x ∷ []) ∙ ap (λ zs. zs ++ nameless_made x ∷ []) e ∙ ap (λ z. map nameless_made ys ++ z ∷ []) f ∙ sym (map-append nameless_made ys (y ∷ []))

-- one of a pure term more in the run alone
pub pure_push : (env : Environment) (xs ys : List Made) (x : Made) → is_impure env x.callee ≡ false → AreSameCalls env xs ys → AreSameCalls env (xs ++ x ∷ []) ys
pure_push env xs ys x h e =
    ap (map nameless_made) (filter-append (λ (c : Made). is_impure env c.callee) xs (x ∷ []) ∙ ap (λ b. impure_calls env xs ++ cond b (x ∷ []) []) h ∙ append-nil (impure_calls env xs)) ∙ e

-- ---- what takes turns

or_true : (b c : Bool) → c ≡ true → (b || c) ≡ true
or_true true c e = refl
or_true false c e = e

any_there : (env : Environment) (callee : Callee) (ts : List Term) (i : ℕ) (t : Term) → slice_get ts i ≡ Some t → goes_to callee (impure_callee env t t.kind) ≡ true → list_any (λ (u : Term). goes_to callee (impure_callee env u u.kind)) ts ≡ true
any_there env callee [] i t e h = cc
any_there env callee (u ∷ ts) zero t e h =
    let here : u ≡ t = cc in
    ap (λ b. b || list_any (λ (x : Term). goes_to callee (impure_callee env x x.kind)) ts) (subst (λ (x : Term). goes_to callee (impure_callee env x x.kind) ≡ true) (sym here) h)
any_there env callee (u ∷ ts) (suc i) t e h = or_true (goes_to callee (impure_callee env u u.kind)) _ (any_there env callee ts i t e h)

by_turns : (kind : ReturnKind) (o p : Option Callee) (callee : Callee) (other : ReturnKind) → calling_by kind o p ≡ ByTurns callee other → o ≡ Some callee
by_turns kind (Some c) p callee b e = cc
by_turns kind None (Some c) callee b e = cc
by_turns kind None None callee b e = cc

-- what takes turns is impure
pub turned_impure : (env : Environment) (term : TermId) (callee : Callee) (kind : ReturnKind) → calling env term ≡ ByTurns callee kind → is_impure env callee ≡ true
turned_impure env term callee kind e = one (slice_get env.terms term.0) refl
  where
    one : (o : Option Term) → slice_get env.terms term.0 ≡ o → is_impure env callee ≡ true
    one None at_term = let bad : NoCall ≡ ByTurns callee kind = sym (ap (calling_of env) at_term) ∙ e in cc
    one (Some t) at_term =
        let goes = by_turns (kind_of t.kind) (impure_callee env t t.kind) (pure_callee env t t.kind) callee kind (sym (ap (calling_of env) at_term) ∙ e) in
        any_there env callee env.terms term.0 t at_term (ap (goes_to callee) goes ∙ goes_there callee)
