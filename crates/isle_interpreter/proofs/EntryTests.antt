-- Entries that are right, as they are looked at one after another.
use Rattle.std.proofs.Common.{◌≡◌, ℕ, ◌+◌, List, [], ◌∷◌, ◌++◌, take, Bool, true, false, Some, None, refl, sym, ap, ◌∙◌, subst, arith, append_assoc, append-nil}
use Rattle.std.specs.Prelude.{not, ◌||◌, ◌&&◌, ◌↔◌, IsTrue, IfOk, IsSomeAnd, Contains, slice_get, zero, suc}
use Rattle.std.specs.declared.result.Result.{Result}
use Rattle.std.specs.declared.result.Result.TheVariants as result
use Rattle.std.specs.List.{AllByRecursion, list_all}
use Rattle.std.proofs.lemmas.Bool.{and_parts, or_parts, or_from}
use Rattle.std.proofs.lemmas.List.Elements.{All-from_recursion, All-contains, Contains-append_left, Contains-append_right}
use Rattle.isle_core.specs.declared.values.Callee.{Callee}
use Rattle.isle_core.specs.Value.{Value}
use Rattle.isle_tree.specs.declared.tree.TypeItem.{TypeItem}
use Rattle.isle_tree.specs.declared.tree.Program.{Program as CodeProgram}
use Rattle.isle_tree.specs.Program.{Function, Program}
use Rattle.isle_tree.specs.Views.{program}
use Rattle.isle_interpreter.specs.declared.served.Served.{Served}
use Rattle.isle_places.specs.Signatures.{Signature, signature_of}
use Rattle.isle_interpreter.specs.Entries.{Entry, Constant, Cases, Turns, entries, answers_for, IsUnanswered, IsUngiven, is_typed, has_constant, FitsPlaces, EntryFits, IsRightFor, IsRight, AreRight}
use Rattle.isle_operand_names.specs.Occurring.{occurs}
use Rattle.isle_operand_names.specs.Sets.{has_name}
use Rattle.isle_places.specs.Places.{Place, places}
use Rattle.isle_tree.specs.Calls.{body_calls}
use Rattle.isle_interpreter.specs.Refusals.{IsWrongEntry, IsMissing, no_answers, no_value, AreAnswered, AreGiven}
use Rattle.isle_interpreter.specs.Served.{has, is_answered, is_given, known_operand, Serves}
use Rattle.isle_interpreter.specs.Apart.{IsApart}
use Rattle.isle_interpreter.specs.Clashes.{FindsClashes}
use Rattle.isle_core.specs.Meaning.{Meaning}
use Rattle.isle_tree.specs.declared.tree.Operand.{Operand}
use Rattle.isle_tree.specs.declared.tree.Operand.TheVariants as operand
use Rattle.std.specs.BTreeSet.{BTreeSet}
use denote.Ref.{Bor}

unanswered : (callee : Callee) (fs : List Entry) → is_answered fs callee ≡ false → IsUnanswered callee fs
unanswered callee [] e = tt
unanswered callee (f ∷ fs) e = let parts = or_parts _ _ e in (parts.0, unanswered callee fs parts.1)

is_unanswered : (callee : Callee) (fs : List Entry) → IsUnanswered callee fs → is_answered fs callee ≡ false
is_unanswered callee [] h = refl
is_unanswered callee (f ∷ fs) h = or_from _ _ h.0 (is_unanswered callee fs h.1)

-- ---- one entry of a callee

known : (p : Program) (g : Function) (m : Meaning) (earlier : List Entry) (f : Entry) (callee : Callee) → answers_for f ≡ Some callee → IsRight p g m earlier f → IsRightFor p earlier f callee
known p g m earlier (Constant name v) callee e r = absurd cc
known p g m earlier (Cases a) callee e r = let same : a.callee ≡ callee = cc in subst (IsRightFor p earlier (Cases a)) same r
known p g m earlier (Turns a) callee e r = let same : a.callee ≡ callee = cc in subst (IsRightFor p earlier (Turns a)) same r

known_so : (p : Program) (g : Function) (m : Meaning) (earlier : List Entry) (f : Entry) (callee : Callee) → answers_for f ≡ Some callee → IsRightFor p earlier f callee → IsRight p g m earlier f
known_so p g m earlier (Constant name v) callee e h = absurd cc
known_so p g m earlier (Cases a) callee e h = let same : callee ≡ a.callee = cc in subst (IsRightFor p earlier (Cases a)) same h
known_so p g m earlier (Turns a) callee e h = let same : callee ≡ a.callee = cc in subst (IsRightFor p earlier (Turns a)) same h

-- one that repeats an earlier one
pub repeats : (p : Program) (g : Function) (m : Meaning) (earlier : List Entry) (f : Entry) (callee : Callee) (s : Served) → answers_for f ≡ Some callee → Serves earlier s → has s callee ≡ true → IsTrue false ↔ IsRight p g m earlier f
repeats p g m earlier f callee s e serves there = (
  λ t. absurd cc,
  λ r.
      let none : is_answered earlier callee ≡ false = is_unanswered callee earlier (known p g m earlier f callee e r).0 in
      let some : is_answered earlier callee ≡ true = sym (serves.serves callee) ∙ there in
      absurd cc,
)

-- another one is right exactly if its answers fit
pub fitting : (p : Program) (g : Function) (m : Meaning) (earlier : List Entry) (f : Entry) (callee : Callee) (s : Served) (of : Signature) (b : Bool) → answers_for f ≡ Some callee → Serves earlier s → has s callee ≡ false → signature_of p callee ≡ Some of
    → IsTrue b ↔ EntryFits p.types f of → IsTrue b ↔ IsRight p g m earlier f
fitting p g m earlier f callee s of b e serves fresh is fits = (
  λ t. known_so p g m earlier f callee e (unanswered callee earlier (sym (serves.serves callee) ∙ fresh), subst (λ o. IsSomeAnd o (EntryFits p.types f)) (sym is) (fits.0 t)),
  λ r. fits.1 (subst (λ o. IsSomeAnd o (EntryFits p.types f)) is (known p g m earlier f callee e r).1),
)

-- so of the test that reports it
pub fits_right : {E : Type 0} (p : Program) (f : Entry) (callee : Callee) (s : Served) (of : Signature) (types : List TypeItem) (r : Result Bool E) → answers_for f ≡ Some callee → has s callee ≡ false → signature_of p callee ≡ Some of → types ≡ p.types
    → IfOk r (λ b. IsTrue b ↔ EntryFits types f of) → IfOk r (λ b. (earlier : List Entry) (g : Function) (m : Meaning) → Serves earlier s → IsTrue b ↔ IsRight p g m earlier f)
fits_right p f callee s of types (result.Ok b) e fresh is same fits = λ earlier g m serves. fitting p g m earlier f callee s of b e serves fresh is (subst (λ ts. IsTrue b ↔ EntryFits ts f of) same fits)
fits_right p f callee s of types (result.Err x) e fresh is same fits = tt

-- one whose callee isn't there is not right
pub without : (p : Program) (g : Function) (m : Meaning) (earlier : List Entry) (f : Entry) (callee : Callee) → answers_for f ≡ Some callee → signature_of p callee ≡ None → IsTrue false ↔ IsRight p g m earlier f
without p g m earlier f callee e is = (λ t. absurd cc, λ r. absurd (subst (λ o. IsSomeAnd o (EntryFits p.types f)) is (known p g m earlier f callee e r).1))

-- ---- one entry of a constant

ungiven : (name : List ℕ) (fs : List Entry) → is_given fs name ≡ false → IsUngiven name fs
ungiven name [] e = tt
ungiven name (f ∷ fs) e = let parts = or_parts _ _ e in (parts.0, ungiven name fs parts.1)

is_ungiven : (name : List ℕ) (fs : List Entry) → IsUngiven name fs → is_given fs name ≡ false
is_ungiven name [] h = refl
is_ungiven name (f ∷ fs) h = or_from _ _ h.0 (is_ungiven name fs h.1)

-- one that repeats an earlier one
pub given_again : (p : Program) (g : Function) (m : Meaning) (earlier : List Entry) (name : List ℕ) (v : Value) (s : Served) → Serves earlier s → has_name s.constants name ≡ true → IsTrue false ↔ IsRight p g m earlier (Constant name v)
given_again p g m earlier name v s serves there = (
  λ t. absurd cc,
  λ r.
      let none : is_given earlier name ≡ false = is_ungiven name earlier r.once in
      let some : is_given earlier name ≡ true = sym (serves.given name) ∙ there in
      absurd cc,
)

-- another one is right exactly if its value is of the types of its places
pub given_right : (p : Program) (g : Function) (m : Meaning) (earlier : List Entry) (name : List ℕ) (v : Value) (s : Served) (b : Bool) → Serves earlier s → has_name s.constants name ≡ false → has_constant p name ≡ true → IsApart p g m name → is_typed v ≡ true → IsTrue b ↔ FitsPlaces p name v
    → IsTrue b ↔ IsRight p g m earlier (Constant name v)
given_right p g m earlier name v s b serves fresh there apart typed fits = (
  λ t. record { once = ungiven name earlier (sym (serves.given name) ∙ fresh); there = there; typed = typed; fits = fits.0 t; apart = apart },
  λ r. fits.1 r.fits,
)

-- so of the test that reports it
pub given_fits : {E : Type 0} (p : Program) (name : List ℕ) (v : Value) (s : Served) (clashing : BTreeSet (Bor (List ℕ))) (r : Result Bool E) → has_name s.constants name ≡ false → has_constant p name ≡ true → has_name clashing name ≡ false → is_typed v ≡ true
    → IfOk r (λ b. IsTrue b ↔ FitsPlaces p name v) → IfOk r (λ b. (earlier : List Entry) (g : Function) (m : Meaning) → Serves earlier s → FindsClashes p g m clashing → IsTrue b ↔ IsRight p g m earlier (Constant name v))
given_fits p name v s clashing (result.Ok b) fresh there alone typed fits = λ earlier g m serves finds. given_right p g m earlier name v s b serves fresh there ((finds name).0 (ap not alone)) typed fits
given_fits p name v s clashing (result.Err x) fresh there alone typed fits = tt

-- one whose value another constant of its type has too
pub clashes_so : (p : Program) (g : Function) (m : Meaning) (earlier : List Entry) (name : List ℕ) (v : Value) (clashing : BTreeSet (Bor (List ℕ))) → FindsClashes p g m clashing → has_name clashing name ≡ true → IsTrue false ↔ IsRight p g m earlier (Constant name v)
clashes_so p g m earlier name v clashing finds shared = (
  λ t. absurd cc,
  λ r. let alone : not (has_name clashing name) ≡ true = (finds name).1 r.apart in absurd cc,
)

-- ---- entries of both sorts

-- what the test of an entry tells
abbrev pub Tells : Program → Served → BTreeSet (Bor (List ℕ)) → Entry → Bool → Type 0
Tells p s clashing e b = (earlier : List Entry) (g : Function) (m : Meaning) → Serves earlier s → FindsClashes p g m clashing → IsTrue b ↔ IsRight p g m earlier e

pub tells_as : {E : Type 0} (p : Program) (s : Served) (clashing : BTreeSet (Bor (List ℕ))) (d e : Entry) (r : Result Bool E) → d ≡ e → IfOk r (Tells p s clashing d) → IfOk r (Tells p s clashing e)
tells_as p s clashing d e r same h = subst (λ x. IfOk r (Tells p s clashing x)) same h

pub tells_too : {E : Type 0} (p : Program) (s : Served) (clashing : BTreeSet (Bor (List ℕ))) (e : Entry) (r : Result Bool E) → IfOk r (λ b. (earlier : List Entry) (g : Function) (m : Meaning) → Serves earlier s → IsTrue b ↔ IsRight p g m earlier e) → IfOk r (Tells p s clashing e)
tells_too p s clashing e (result.Ok b) h = λ earlier g m serves finds. h earlier g m serves
tells_too p s clashing e (result.Err x) h = tt

-- ---- tests

-- the two answers of an addition
pub added : (b r : Bool) → r ≡ not b → r ≡ true → b ≡ false
added false r e f = refl
added true r e f = absurd cc

pub not_added : (b r : Bool) → r ≡ not b → r ≡ false → b ≡ true
not_added true r e f = refl
not_added false r e f = absurd cc

-- ---- entries in order

right_more : (p : Program) (g : Function) (m : Meaning) (earlier fs : List Entry) (f : Entry) → AreRight p g m earlier fs → IsRight p g m (earlier ++ fs) f → AreRight p g m earlier (fs ++ f ∷ [])
right_more p g m earlier [] f h r = (subst (λ gs. IsRight p g m gs f) (append-nil earlier) r, tt)
right_more p g m earlier (d ∷ fs) f h r = (h.0, right_more p g m (earlier ++ d ∷ []) fs f h.1 (subst (λ gs. IsRight p g m gs f) (sym (append_assoc earlier (d ∷ []) fs)) r))

take_next : (fs : List Entry) (i : ℕ) (f : Entry) → slice_get fs i ≡ Some f → take (i + 1) fs ≡ take i fs ++ f ∷ []
take_next [] i f e = absurd cc
take_next (g ∷ fs) zero f e = let same : g ≡ f = cc in ap (λ x. x ∷ []) same
take_next (g ∷ fs) (suc i) f e = let more : suc i + 1 ≡ suc (i + 1) = omega arith in ap (λ n. take n (g ∷ fs)) more ∙ ap (λ xs. g ∷ xs) (take_next fs i f e)

-- what is known of the entries up to one
abbrev pub Upto : Program → Function → Meaning → List Entry → ℕ → Served → Type 0
Upto p g m fs i s = AreRight p g m [] (take i fs) × Serves (take i fs) s

-- one right entry more
pub upto_more : (p : Program) (g : Function) (m : Meaning) (fs : List Entry) (i : ℕ) (f : Entry) (old new : Served) (right : Bool) → slice_get fs i ≡ Some f → Upto p g m fs i old → right ≡ true
    → ((earlier : List Entry) → Serves earlier old → IsTrue right ↔ IsRight p g m earlier f) → ((earlier : List Entry) → Serves earlier old → IsTrue right → Serves (earlier ++ f ∷ []) new) → Upto p g m fs (i + 1) new
upto_more p g m fs i f old new right at up told is serves =
    let next = take_next fs i f at in (
      subst (AreRight p g m []) (sym next) (right_more p g m [] (take i fs) f up.0 ((is (take i fs) up.1).0 told)),
      subst (λ gs. Serves gs new) (sym next) (serves (take i fs) up.1 told),
    )

-- the first entry that isn't right
pub first_wrong : (p : Program) (g : Function) (m : Meaning) (i : ℕ) (e : Entry) (right : Bool) → slice_get (entries m) i ≡ Some e → AreRight p g m [] (take i (entries m)) → right ≡ false → IsTrue right ↔ IsRight p g m (take i (entries m)) e → IsWrongEntry p g m i
first_wrong p g m i e right at before told is = record {
  entry = e;
  found = at;
  before = before;
  wrong = λ r. let so : right ≡ true = is.1 r in absurd cc;
}

-- ---- calls

all_served : (fs : List Entry) (s : Served) (cs : List Callee) → Serves fs s → list_all (has s) cs ≡ true → AllByRecursion (λ callee. is_answered fs callee ≡ true) cs
all_served fs s [] serves all = tt
all_served fs s (c ∷ cs) serves all = let parts = and_parts (has s c) (list_all (has s) cs) all in (sym (serves.serves c) ∙ parts.0, all_served fs s cs serves parts.1)

-- each callee of the function has an entry
pub are_answered : (f : Function) (fs : List Entry) (s : Served) → Serves fs s → list_all (has s) (body_calls f.body) ≡ true → AreAnswered f fs
are_answered f fs s serves all callee there none =
    let some : is_answered fs callee ≡ true = All-contains (λ c. is_answered fs c ≡ true) (body_calls f.body) callee (All-from_recursion (λ c. is_answered fs c ≡ true) (body_calls f.body) (all_served fs s (body_calls f.body) serves all)) there in
    let not : is_answered fs callee ≡ false = is_unanswered callee fs none in
    absurd cc

-- one of the callees has no entry
abbrev IsLeft : List Callee → List Entry → Type 0
IsLeft cs fs = (callee : Callee) × Contains cs callee × IsUnanswered callee fs

left : (fs : List Entry) (s : Served) (cs : List Callee) → Serves fs s → list_all (has s) cs ≡ false → IsLeft cs fs
left fs s [] serves all = absurd cc
left fs s (c ∷ cs) serves all = by (has s c) refl all (left fs s cs serves)
  where
    by : (b : Bool) → has s c ≡ b → (b && list_all (has s) cs) ≡ false → (list_all (has s) cs ≡ false → IsLeft cs fs) → IsLeft (c ∷ cs) fs
    by true is none others = let other = others none in (other.0, Contains-append_right (c ∷ []) cs other.0 other.1, other.2)
    by false is none others = (c, Contains-append_left (c ∷ []) cs c (0, omega arith, refl), unanswered c fs (sym (serves.serves c) ∙ is))

-- or one of them has none
pub is_missing : (p : Program) (f : Function) (fs : List Entry) (s : Served) → Serves fs s → list_all (has s) (body_calls f.body) ≡ false → IsMissing p f fs
is_missing p f fs s serves all = let one = left fs s (body_calls f.body) serves all in no_answers one.0 one.1 one.2

-- ---- names

-- whether what stands at a place is known
abbrev pub knows : Program → Served → Place → Bool
knows p s x = known_operand p s x.0

-- what is known of it by what is kept of the program
pub known_of : (p kept signed : CodeProgram) (f : Function) (s : Served) (told : Bool) → kept ≡ p → signed ≡ p → told ≡ list_all (knows (program kept) s) (places (program signed) f) → told ≡ list_all (knows (program p) s) (places (program p) f)
known_of p kept signed f s told one two e =
    e
    ∙ ap (λ (q : CodeProgram). list_all (knows (program q) s) (places (program signed) f)) one
    ∙ ap (λ (q : CodeProgram). list_all (knows (program p) s) (places (program q) f)) two

all_known : (p : Program) (s : Served) (xs : List Place) → list_all (knows p s) xs ≡ true → AllByRecursion (λ (x : Place). knows p s x ≡ true) xs
all_known p s [] all = tt
all_known p s (x ∷ xs) all = let parts = and_parts (knows p s x) (list_all (knows p s) xs) all in (parts.0, all_known p s xs parts.1)

-- each constant in the function has an entry
pub are_given : (p : Program) (f : Function) (fs : List Entry) (s : Served) → Serves fs s → list_all (knows p s) (places p f) ≡ true → AreGiven p f fs
are_given p f fs s serves all name ty there free none =
    let some : (has_name s.constants name || occurs p name) ≡ true =
    All-contains (λ (x : Place). knows p s x ≡ true) (places p f) (operand.Name name, ty) (All-from_recursion (λ (x : Place). knows p s x ≡ true) (places p f) (all_known p s (places p f) all)) there in
    let not : (has_name s.constants name || occurs p name) ≡ false = or_from _ _ (serves.given name ∙ is_ungiven name fs none) free in
    absurd cc

-- one of the names has no entry, and no type that occurs
abbrev IsFree : Program → List Place → List Entry → Type 0
IsFree p xs fs = (name : List ℕ) × (ty : List ℕ) × Contains {X = Place} xs (operand.Name name, ty) × (occurs p name ≡ false) × IsUngiven name fs

-- so one that isn't known
not_known : (p : Program) (fs : List Entry) (s : Served) (o : Operand) (ty : List ℕ) (xs : List Place) → Serves fs s → known_operand p s o ≡ false → IsFree p ((o, ty) ∷ xs) fs
not_known p fs s (operand.Name name) ty xs serves e =
    let parts = or_parts (has_name s.constants name) (occurs p name) e in
    (name, ty, Contains-append_left ((operand.Name name, ty) ∷ []) xs (operand.Name name, ty) (0, omega arith, refl), parts.1, ungiven name fs (sym (serves.given name) ∙ parts.0))
not_known p fs s (operand.Local n) ty xs serves e = absurd cc
not_known p fs s (operand.Arg n) ty xs serves e = absurd cc
not_known p fs s (operand.Bool b) ty xs serves e = absurd cc
not_known p fs s (operand.Int of z) ty xs serves e = absurd cc
not_known p fs s (operand.Raw z) ty xs serves e = absurd cc

free : (p : Program) (fs : List Entry) (s : Served) (xs : List Place) → Serves fs s → list_all (knows p s) xs ≡ false → IsFree p xs fs
free p fs s [] serves all = absurd cc
free p fs s (x ∷ xs) serves all = by (knows p s x) refl all (free p fs s xs serves)
  where
    by : (b : Bool) → knows p s x ≡ b → (b && list_all (knows p s) xs) ≡ false → (list_all (knows p s) xs ≡ false → IsFree p xs fs) → IsFree p (x ∷ xs) fs
    by true is none others = let other = others none in (other.0, other.1, Contains-append_right (x ∷ []) xs (operand.Name other.0, other.1) other.2, other.3, other.4)
    by false is none others = not_known p fs s x.0 x.1 xs serves is

-- or one of them has none
pub is_free : (p : Program) (f : Function) (fs : List Entry) (s : Served) → Serves fs s → list_all (knows p s) (places p f) ≡ false → IsMissing p f fs
is_free p f fs s serves all = let one = free p fs s (places p f) serves all in no_value one.0 one.1 one.2 one.3 one.4
