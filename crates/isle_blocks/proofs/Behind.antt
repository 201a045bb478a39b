-- What is bound after tests and calls.
use Rattle.std.proofs.Common.{◌≡◌, ◌⊎◌, inl, inr, ⊎_elim, ℕ, zero, suc, ◌<◌, List, [], ◌∷◌, ◌++◌, Option, Some, sym, ap, ◌∙◌, subst, arith}
use Rattle.std.specs.Prelude.{slice_get, Contains}
use Rattle.std.proofs.lemmas.List.Elements.{Contains-push}
use Rattle.isle_core.specs.declared.BindingId.{BindingId}
use Rattle.isle_core.specs.declared.TypeId.{TypeId}
use Rattle.isle_core.specs.declared.VariantId.{VariantId}
use Rattle.isle_core.specs.declared.rule_sets.Binding.{Binding}
use Rattle.isle_core.specs.declared.rule_sets.Binding.TheVariants as binding
use Rattle.isle_core.specs.declared.rule_sets.Constraint.{Constraint}
use Rattle.isle_core.specs.declared.rule_sets.Constraint.TheVariants as constraint
use Rattle.isle_core.specs.ArmPlaces.{bound_within}
use Rattle.isle_core.specs.Path.{Path, Inner, Chosen, VariantField, StructField, at, paths_of}
use Rattle.isle_core.specs.RuleSet.{is_test}
use Rattle.isle_core.specs.StandsFor.{EachOnce}
use Rattle.isle_core.specs.Tests.{Test, Is}
use Rattle.isle_core.proofs.BindingPaths.{IsThere, contains_at, place_once, inner_at, inner_path, variant_field_at, struct_field_at}
use Rattle.isle_blocks.specs.declared.fields.Shown.{Shown}
use Rattle.isle_blocks.specs.declared.fields.Shown.TheVariants as shown
use Rattle.isle_blocks.specs.Fields.{FieldKey, FindsFields, inner_place, shows}
use Rattle.isle_blocks.specs.Followers.{FindsInners}
use Rattle.isle_blocks.proofs.FieldPlaces.{within_kept, field_bound}
use Rattle.isle_blocks.proofs.MoreBound.{Keeps}

-- the fields and the inner values that the tests show, the calls that were made, their inner values and their items are bound
pub record IsBehind (ps : List Path) (tests : List Test) (done : List Path) (bound : List ℕ) : Type 0 where
  pub call : (q : BindingId) → Contains done (at ps q) → Contains bound q.0
  pub inner : (q : BindingId) (p : Path) → at ps q ≡ Inner p → Contains done p → Contains bound q.0
  pub item : (q : BindingId) (p : Path) → at ps q ≡ Chosen p → Contains done p → Contains bound q.0
  pub opened : (q : BindingId) (p : Path) → at ps q ≡ Inner p → Contains tests (Is p constraint.Some) → Contains bound q.0
  pub variant : (q : BindingId) (ty : TypeId) (variant : VariantId) (field : ℕ) (p : Path) → at ps q ≡ VariantField variant field p → Contains tests (Is p (constraint.Variant ty variant)) → Contains bound q.0
  pub struct : (q : BindingId) (ty : TypeId) (field : ℕ) (p : Path) → at ps q ≡ StructField field p → Contains tests (Is p (constraint.Struct ty)) → Contains bound q.0

pub none_in : {A : Type 0} (x : A) → Contains [] x → ⊥
none_in x k = omega (arith, k.1)

pub cons_cases : {A : Type 0} (x y : A) (xs : List A) → Contains (x ∷ xs) y → (x ≡ y) ⊎ Contains xs y
cons_cases x y xs (zero, lt, e) = inl e
cons_cases x y xs (suc k, lt, e) = inr (k, omega (arith, lt), e)

pub cons_here : {A : Type 0} (x y : A) (xs : List A) → x ≡ y → Contains (x ∷ xs) y
cons_here x y xs e = (zero, omega arith, e)

pub cons_later : {A : Type 0} (x y : A) (xs : List A) → Contains xs y → Contains (x ∷ xs) y
cons_later x y xs k = (suc k.0, omega (arith, k.1), k.2)

pub behind_none : (ps : List Path) → IsBehind ps [] [] []
behind_none ps = record {
  call = λ q k. absurd (none_in (at ps q) k);
  inner = λ q p e k. absurd (none_in p k);
  item = λ q p e k. absurd (none_in p k);
  opened = λ q p e k. absurd (none_in (Is p constraint.Some) k);
  variant = λ q ty v field p e k. absurd (none_in (Is p (constraint.Variant ty v)) k);
  struct = λ q ty field p e k. absurd (none_in (Is p (constraint.Struct ty)) k);
}

-- so of fewer tests
pub behind_fewer : (ps : List Path) (tests more : List Test) (done : List Path) (bound : List ℕ) → ((x : Test) → Contains tests x → Contains more x) → IsBehind ps more done bound → IsBehind ps tests done bound
behind_fewer ps tests more done bound less h = record {
  call = h.call;
  inner = h.inner;
  item = h.item;
  opened = λ q p e k. h.opened q p e (less (Is p constraint.Some) k);
  variant = λ q ty v field p e k. h.variant q ty v field p e (less (Is p (constraint.Variant ty v)) k);
  struct = λ q ty field p e k. h.struct q ty field p e (less (Is p (constraint.Struct ty)) k);
}

-- so if more is bound
pub behind_grows : (ps : List Path) (tests : List Test) (done : List Path) (bound more : List ℕ) → Keeps bound more → IsBehind ps tests done bound → IsBehind ps tests done more
behind_grows ps tests done bound more keeps h = record {
  call = λ q k. keeps q.0 (h.call q k);
  inner = λ q p e k. keeps q.0 (h.inner q p e k);
  item = λ q p e k. keeps q.0 (h.item q p e k);
  opened = λ q p e k. keeps q.0 (h.opened q p e k);
  variant = λ q ty v field p e k. keeps q.0 (h.variant q ty v field p e k);
  struct = λ q ty field p e k. keeps q.0 (h.struct q ty field p e k);
}

same_test : (p q : Path) (c d : Constraint) → Is p c ≡ Is q d → (p ≡ q) × (c ≡ d)
same_test p q c d e = (cc, cc)

-- what was bound last
last_bound : (bound : List ℕ) (a b : ℕ) → a ≡ b → Contains (bound ++ a ∷ []) b
last_bound bound a b e = subst (λ n. Contains (bound ++ a ∷ []) n) e (Contains-push bound a)

-- after one test more, within its arm
pub behind_test : (bs : List Binding) (found : FieldKey → Option BindingId) (counts : Shown → Option ℕ) (inners : ℕ → Option BindingId) → FindsFields bs found counts → FindsInners bs inners → EachOnce (paths_of bs) → (tests : List Test) (bound : List ℕ) (c : BindingId × Constraint) → IsThere (at (paths_of bs) c.0)
    → IsBehind (paths_of bs) tests [] bound → IsBehind (paths_of bs) (is_test (paths_of bs) c ∷ tests) [] (bound_within bound (shows found counts inners c.0 c.1))
behind_test bs found counts inners f g once tests bound c there h = record {
  call = λ q k. absurd (none_in (at ps q) k);
  inner = λ q p e k. absurd (none_in p k);
  item = λ q p e k. absurd (none_in p k);
  opened = λ q p e k. ⊎_elim (λ j. new_inner q p e j) (λ j. within_kept bound (shows found counts inners c.0 c.1) q.0 (h.opened q p e j)) (cons_cases (is_test ps c) (Is p constraint.Some) tests k);
  variant = λ q ty v field p e k. ⊎_elim (λ j. new_variant q ty v field p e j) (λ j. within_kept bound (shows found counts inners c.0 c.1) q.0 (h.variant q ty v field p e j)) (cons_cases (is_test ps c) (Is p (constraint.Variant ty v)) tests k);
  struct = λ q ty field p e k. ⊎_elim (λ j. new_struct q ty field p e j) (λ j. within_kept bound (shows found counts inners c.0 c.1) q.0 (h.struct q ty field p e j)) (cons_cases (is_test ps c) (Is p (constraint.Struct ty)) tests k);
}
  where
    ps : List Path
    ps = paths_of bs

    new_inner : (q : BindingId) (p : Path) → at ps q ≡ Inner p → is_test ps c ≡ Is p constraint.Some → Contains (bound_within bound (shows found counts inners c.0 c.1)) q.0
    new_inner q p e j =
        let same = same_test (at ps c.0) p c.1 constraint.Some j in
        let is = inner_at bs q p (subst IsThere same.0 there) e in
        let source : is.0.0 ≡ c.0.0 = sym (place_once ps c.0.0 is.0.0 once there (same.0 ∙ sym is.3)) in
        let one = g.all is.0 q is.1 is.2 in
        let k = g.found is.0.0 one.0 one.1 in
        let place : q.0 ≡ one.0.0 = place_once ps q.0 one.0.0 once (subst IsThere (sym e) tt) (inner_path bs is.0 q is.1 is.2 ∙ sym (inner_path bs is.0 one.0 k.0 k.1)) in
        let has : Some one.0 ≡ inners c.0.0 = sym one.1 ∙ ap inners source in
        subst (λ d. Contains (bound_within bound (shows found counts inners c.0 d)) q.0) (sym same.1)
        (subst (λ o. Contains (bound_within bound (inner_place o)) q.0) has (last_bound bound one.0.0 q.0 (sym place)))

    new_variant : (q : BindingId) (ty : TypeId) (v : VariantId) (field : ℕ) (p : Path) → at ps q ≡ VariantField v field p → is_test ps c ≡ Is p (constraint.Variant ty v) → Contains (bound_within bound (shows found counts inners c.0 c.1)) q.0
    new_variant q ty v field p e j =
        let same = same_test (at ps c.0) p c.1 (constraint.Variant ty v) j in
        let is = variant_field_at bs q v field p (subst IsThere same.0 there) e in
        let source : is.0 ≡ c.0 = ap (λ n. record { 0 = n }) (sym (place_once ps c.0.0 is.0.0 once there (same.0 ∙ sym is.5))) in
        let stands : slice_get bs q.0 ≡ Some (binding.MatchVariant c.0 v (record { 0 = field })) = is.2 ∙ ap (λ s. Some (binding.MatchVariant s v is.1)) source ∙ ap (λ n. Some (binding.MatchVariant c.0 v (record { 0 = n }))) is.3 in
        subst (λ d. Contains (bound_within bound (shows found counts inners c.0 d)) q.0) (sym same.1)
        (field_bound bs found counts f once bound (shown.Variant c.0 v) field q stands (subst (λ (s : BindingId). s.0 < q.0) source is.4))

    new_struct : (q : BindingId) (ty : TypeId) (field : ℕ) (p : Path) → at ps q ≡ StructField field p → is_test ps c ≡ Is p (constraint.Struct ty) → Contains (bound_within bound (shows found counts inners c.0 c.1)) q.0
    new_struct q ty field p e j =
        let same = same_test (at ps c.0) p c.1 (constraint.Struct ty) j in
        let is = struct_field_at bs q field p (subst IsThere same.0 there) e in
        let source : is.0 ≡ c.0 = ap (λ n. record { 0 = n }) (sym (place_once ps c.0.0 is.0.0 once there (same.0 ∙ sym is.5))) in
        let stands : slice_get bs q.0 ≡ Some (binding.ExtractStruct c.0 (record { 0 = field })) = is.2 ∙ ap (λ s. Some (binding.ExtractStruct s is.1)) source ∙ ap (λ n. Some (binding.ExtractStruct c.0 (record { 0 = n }))) is.3 in
        subst (λ d. Contains (bound_within bound (shows found counts inners c.0 d)) q.0) (sym same.1)
        (field_bound bs found counts f once bound (shown.Struct c.0) field q stands (subst (λ (s : BindingId). s.0 < q.0) source is.4))

-- what is bound after a call, and what stands after it
abbrev Adds : List Path → BindingId → Path → List ℕ → Type 0
Adds ps c p more = (q : BindingId) → at ps q ≡ p → Contains more q.0

-- after a call, if its inner value and its item are bound, if they stand anywhere
pub behind_next : (ps : List Path) (tests : List Test) (done : List Path) (bound more : List ℕ) (c : BindingId) → EachOnce ps → IsThere (at ps c) → Keeps bound more → Contains more c.0 → Adds ps c (Inner (at ps c)) more → Adds ps c (Chosen (at ps c)) more
    → IsBehind ps tests done bound → IsBehind ps tests (at ps c ∷ done) more
behind_next ps tests done bound more c once there keeps call inner item h = record {
  call = λ q k. ⊎_elim
      (λ e. subst (Contains more) (place_once ps c.0 q.0 once there e) call)
      (λ j. keeps q.0 (h.call q j))
      (cons_cases (at ps c) (at ps q) done k);
  inner = λ q p is k. ⊎_elim (λ e. inner q (is ∙ ap Inner (sym e))) (λ j. keeps q.0 (h.inner q p is j)) (cons_cases (at ps c) p done k);
  item = λ q p is k. ⊎_elim (λ e. item q (is ∙ ap Chosen (sym e))) (λ j. keeps q.0 (h.item q p is j)) (cons_cases (at ps c) p done k);
  opened = λ q p is k. keeps q.0 (h.opened q p is k);
  variant = λ q ty v field p is k. keeps q.0 (h.variant q ty v field p is k);
  struct = λ q ty field p is k. keeps q.0 (h.struct q ty field p is k);
}

-- what stands nowhere
pub adds_none : (ps : List Path) (c : BindingId) (p : Path) (more : List ℕ) → IsThere p → (Contains ps p → ⊥) → Adds ps c p more
adds_none ps c p more there without q is = absurd (without (contains_at ps q.0 p there is))

-- what stands at a bound place
pub adds_one : (ps : List Path) (c b : BindingId) (p : Path) (more : List ℕ) → EachOnce ps → IsThere p → at ps b ≡ p → Contains more b.0 → Adds ps c p more
adds_one ps c b p more once there path k q is = subst (Contains more) (place_once ps b.0 q.0 once (subst IsThere (sym path) there) (path ∙ sym is)) k
