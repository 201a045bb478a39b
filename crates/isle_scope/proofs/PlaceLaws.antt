-- Where a local is bound last, as it is bound and goes out of scope.
use Rattle.std.proofs.Common.{◌≡◌, ℕ, zero, suc, ◌+◌, List, [], ◌∷◌, ◌++◌, length, take, Bool, true, false, Option, Some, None, ⊎_elim, ◌⊎◌, inl, inr, refl, sym, ap, ◌∙◌, append_assoc, subst, arith}
use Rattle.std.specs.Prelude.{◌==◌, ◌||◌, IsSome, is_some, if◌then◌else◌}
use Rattle.std.specs.List.{list_any}
use Rattle.std.proofs.lemmas.Bool.{eq-eqb, eqb-true, ne_eqb}
use Rattle.std.proofs.lemmas.List.{append-nil, map-append, length-map}
use Rattle.isle_scope.specs.declared.entry.Entry.{Entry}
use Rattle.isle_scope.specs.Places.{look_near, Sets}
use Rattle.isle_scope.specs.Scope.{last_from, last_place}
use Rattle.isle_scope.specs.Log.{locals_of, Undoes, Finds}

-- ---- one local more

from_more : (place : ℕ) (known : Option ℕ) (ls : List ℕ) (l n : ℕ)
    → last_from place known (ls ++ l ∷ []) n ≡ (if l == n then Some (place + length ls) else last_from place known ls n)
from_more place known [] l n = ap (λ p. if l == n then Some p else known) {y = place + 0} (omega arith)
from_more place known (x ∷ ls) l n =
    from_more (suc place) (if x == n then Some place else known) ls l n
    ∙ ap (λ p. if l == n then Some p else last_from (suc place) (if x == n then Some place else known) ls n) {y = place + suc (length ls)} (omega arith)

-- the local that is bound
last_now : (ls : List ℕ) (l n : ℕ) → l ≡ n → last_place (ls ++ l ∷ []) n ≡ Some (length ls)
last_now ls l n e = from_more 0 None ls l n ∙ rw (eq-eqb l n e) (ap Some {x = 0 + length ls} {y = length ls} (omega arith))

-- another
last_still : (ls : List ℕ) (l n : ℕ) → (l ≡ n → ⊥) → last_place (ls ++ l ∷ []) n ≡ last_place ls n
last_still ls l n apart = from_more 0 None ls l n ∙ rw (ne_eqb l n apart) refl

-- what has a place is bound
has_from : (place : ℕ) (known : Option ℕ) (ls : List ℕ) (n : ℕ) → is_some (last_from place known ls n) ≡ (is_some known || list_any (λ l. l == n) ls)
has_from place known [] n = either (is_some known)
  where
    either : (b : Bool) → b ≡ (b || false)
    either true = refl
    either false = refl
has_from place known (l ∷ ls) n = has_from (suc place) (if l == n then Some place else known) ls n ∙ one (l == n) known (list_any (λ m. m == n) ls)
  where
    one : (same : Bool) (before : Option ℕ) (later : Bool) → (is_some (if same then Some place else before) || later) ≡ (is_some before || (same || later))
    one true None later = refl
    one true (Some x) later = refl
    one false before later = refl

pub has_place : (ls : List ℕ) (n : ℕ) → is_some (last_place ls n) ≡ list_any (λ l. l == n) ls
has_place ls n = has_from 0 None ls n

-- ---- the log

locals_more : (log : List Entry) (e : Entry) → locals_of (log ++ e ∷ []) ≡ locals_of log ++ e.local ∷ []
locals_more log e = map-append _ log (e ∷ [])

-- with an entry more
undoes_more : (bound : List ℕ) (log : List Entry) (e : Entry) → Undoes bound log → e.hidden ≡ last_place (bound ++ locals_of log) e.local → Undoes bound (log ++ e ∷ [])
undoes_more bound [] e h was = (subst (λ (ls : List ℕ). e.hidden ≡ last_place ls e.local) (append-nil bound) was, tt)
undoes_more bound (x ∷ log) e h was =
    (h.0, undoes_more (bound ++ x.local ∷ []) log e h.1 (subst (λ (ls : List ℕ). e.hidden ≡ last_place ls e.local) (sym (append_assoc bound (x.local ∷ []) (locals_of log))) was))

-- and with one less
undoes_less : (bound : List ℕ) (log : List Entry) (e : Entry) → Undoes bound (log ++ e ∷ []) → Undoes bound log × (e.hidden ≡ last_place (bound ++ locals_of log) e.local)
undoes_less bound [] e h = (tt, subst (λ (ls : List ℕ). e.hidden ≡ last_place ls e.local) (sym (append-nil bound)) h.0)
undoes_less bound (x ∷ log) e h =
    let k = undoes_less (bound ++ x.local ∷ []) log e h.1 in
    ((h.0, k.0), subst (λ (ls : List ℕ). e.hidden ≡ last_place ls e.local) (append_assoc bound (x.local ∷ []) (locals_of log)) k.1)

-- ---- the places

unequal : true ≡ false → ⊥
unequal e = absurd cc

-- a number more, at which nothing stands
pub near_more : (near : List (Option ℕ)) (n : ℕ) → look_near (near ++ None ∷ []) n ≡ look_near near n
near_more [] zero = refl
near_more [] (suc n) = refl
near_more (x ∷ near) zero = refl
near_more (x ∷ near) (suc n) = near_more near n

-- what a local's place is after one was set
got : (old new : ℕ → Option ℕ) (y n : ℕ) (o : Option ℕ) → Sets old new y o → ((y ≡ n) × (new n ≡ o)) ⊎ ((y ≡ n → ⊥) × (new n ≡ old n))
got old new y n o u = one (y == n) refl
  where
    one : (b : Bool) → (y == n) ≡ b → ((y ≡ n) × (new n ≡ o)) ⊎ ((y ≡ n → ⊥) × (new n ≡ old n))
    one true is = inl (eqb-true y n is, u n ∙ ap (λ (b : Bool). if b then o else old n) is)
    one false is = inr (λ e. unequal (sym (eq-eqb y n e) ∙ is), u n ∙ ap (λ (b : Bool). if b then o else old n) is)

-- a local is bound
pub finds_more : (log : List Entry) (old new : ℕ → Option ℕ) (e : Entry) (place : ℕ) → Finds log old → e.hidden ≡ old e.local → place ≡ length log → Sets old new e.local (Some place) → Finds (log ++ e ∷ []) new
finds_more log old new e place f was is u = record {
  now = λ n.
      ⊎_elim
      (λ same. same.1 ∙ ap Some (is ∙ sym (length-map log (λ (x : Entry). x.local))) ∙ sym (last_now (locals_of log) e.local n same.0))
      (λ other. other.1 ∙ f.now n ∙ sym (last_still (locals_of log) e.local n other.0))
      (got old new e.local n (Some place) u)
      ∙ ap (λ (ls : List ℕ). last_place ls n) (sym (locals_more log e));
  before = undoes_more [] log e f.before (was ∙ f.now e.local);
}

-- a local goes out of scope
pub finds_less : (log : List Entry) (old new : ℕ → Option ℕ) (e : Entry) → Finds (log ++ e ∷ []) old → Sets old new e.local e.hidden → Finds log new
finds_less log old new e f u = record {
  now = λ n. ⊎_elim
      (λ same. same.1 ∙ k.1 ∙ ap (last_place (locals_of log)) same.0)
      (λ other. other.1 ∙ f.now n ∙ ap (λ (ls : List ℕ). last_place ls n) (locals_more log e) ∙ last_still (locals_of log) e.local n other.0)
      (got old new e.local n e.hidden u);
  before = k.0;
}
  where
    k : Undoes [] log × (e.hidden ≡ last_place (locals_of log) e.local)
    k = undoes_less [] log e f.before

-- the last local is bound
pub last_is : (log : List Entry) (old : ℕ → Option ℕ) (e : Entry) → Finds (log ++ e ∷ []) old → IsSome (old e.local)
last_is log old e f =
    subst IsSome (sym (f.now e.local ∙ ap (λ (ls : List ℕ). last_place ls e.local) (locals_more log e) ∙ last_now (locals_of log) e.local e.local refl)) refl

-- fewer locals
pub locals-take : (n : ℕ) (log : List Entry) → locals_of (take n log) ≡ take n (locals_of log)
locals-take zero log = refl
locals-take (suc n) [] = refl
locals-take (suc n) (e ∷ log) = ap (λ (ls : List ℕ). e.local ∷ ls) (locals-take n log)
