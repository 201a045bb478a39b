-- What tests bind, and the calls of a rule that they bound.
use Rattle.std.proofs.Common.{◌≡◌, ⊎_elim, ℕ, suc, List, [], ◌∷◌, ◌++◌, Bool, true, false, Option, Some, None, refl, sym, ap, ◌∙◌, subst}
use Rattle.std.specs.Prelude.{◌&&◌, slice_get, Contains}
use Rattle.std.proofs.lemmas.List.Elements.{Contains-push_cases}
use Rattle.isle_core.specs.declared.BindingId.{BindingId}
use Rattle.isle_core.specs.declared.VariantId.{VariantId}
use Rattle.isle_core.specs.declared.rule_sets.Binding.{Binding}
use Rattle.isle_core.specs.declared.rule_sets.Binding.TheVariants as binding
use Rattle.isle_core.specs.declared.rule_sets.Constraint.{Constraint}
use Rattle.isle_core.specs.declared.rule_sets.Constraint.TheVariants as constraint
use Rattle.isle_core.specs.declared.types.ReturnKind.{ReturnKind}
use Rattle.isle_core.specs.declared.types.ReturnKind.TheVariants as return_kind
use Rattle.isle_core.specs.declared.types.Term.{Term}
use Rattle.isle_core.specs.ArmPlaces.{AreParts, ArePlacesOf, bound_within}
use Rattle.isle_core.specs.Bindable.{bound_by}
use Rattle.isle_core.specs.Occurrences.{occurrence_at}
use Rattle.isle_core.specs.Path.{Path, Inner, Chosen, VariantField, StructField, at, paths_of}
use Rattle.isle_core.specs.Rule.{Environment}
use Rattle.isle_core.specs.Setting.{setting}
use Rattle.isle_core.specs.StandsFor.{EachOnce}
use Rattle.isle_core.specs.Tests.{Test, Is}
use Rattle.isle_core.proofs.BindingPaths.{IsThere, at_before, inner_path}
use Rattle.isle_blocks.specs.declared.fields.Shown.{Shown}
use Rattle.isle_blocks.specs.Fields.{FieldKey, inner_place, shows}
use Rattle.isle_blocks.specs.Followers.{FindsInners}
use Rattle.isle_blocks.specs.Needed.{is_bound}
use Rattle.isle_blocks.specs.Nest.{bound_with, was_bound}
use Rattle.isle_blocks.proofs.Behind.{IsBehind, none_in, cons_later, cons_here, behind_none, behind_fewer, behind_grows, behind_next, adds_none, adds_one}
use Rattle.isle_blocks.proofs.NextLaws.{HasNext, has_none, has_inner, has_item}
use Rattle.isle_blocks.proofs.MoreBound.{Keeps, by_kept}
use Rattle.isle_blocks.proofs.NeededBound.{contained}
use Rattle.isle_blocks.proofs.NeededRuns.{IsStill, AreStill, path_uncalled}
use Rattle.isle_blocks.proofs.StillRules.{AreTested}

-- ---- what tests bind

-- no impure call is bound, and no inner value but of options that were tested
pub record BindsTested (env : Environment) (ps : List Path) (tests : List Test) (bound : List ℕ) : Type 0 where
  pub uncalled : (q : BindingId) → Contains bound q.0 → occurrence_at env (at ps q) ≡ []
  pub shown : (q : BindingId) (p : Path) → Contains bound q.0 → at ps q ≡ Inner p → Contains tests (Is p constraint.Some)

tested_none : (env : Environment) (ps : List Path) (tests : List Test) → BindsTested env ps tests []
tested_none env ps tests = record { uncalled = λ q k. absurd (none_in q.0 k); shown = λ q p k e. absurd (none_in q.0 k) }

-- so after more tests
tested_more : (env : Environment) (ps : List Path) (tests more : List Test) (bound : List ℕ) → ((x : Test) → Contains tests x → Contains more x) → BindsTested env ps tests bound → BindsTested env ps more bound
tested_more env ps tests more bound k h = record { uncalled = h.uncalled; shown = λ q p c e. k (Is p constraint.Some) (h.shown q p c e) }

-- with one more that is bound
tested_push : (env : Environment) (ps : List Path) (tests : List Test) (bound : List ℕ) (b : BindingId) → occurrence_at env (at ps b) ≡ [] → ((p : Path) → at ps b ≡ Inner p → Contains tests (Is p constraint.Some)) → BindsTested env ps tests bound
    → BindsTested env ps tests (bound ++ b.0 ∷ [])
tested_push env ps tests bound b none shown h = record {
  uncalled = λ q k. ⊎_elim (λ c. h.uncalled q c) (λ e. ap (λ n. occurrence_at env (at ps (record { 0 = n }))) (sym e) ∙ none) (Contains-push_cases bound b.0 q.0 k);
  shown = λ q p k is. ⊎_elim (λ c. h.shown q p c is) (λ e. shown p (ap (λ n. at ps (record { 0 = n })) e ∙ is)) (Contains-push_cases bound b.0 q.0 k);
}

-- with what is needed
tested_needs : (env : Environment) (ps : List Path) (tests : List Test) (ns : List BindingId) (bound : List ℕ) → AreStill env ps ns → BindsTested env ps tests bound → BindsTested env ps tests (bound_by bound ns)
tested_needs env ps tests [] bound still h = h
tested_needs env ps tests (n ∷ ns) bound still h =
    tested_needs env ps tests ns (bound ++ n.0 ∷ []) still.1
    (tested_push env ps tests bound n (path_uncalled env (at ps n) still.0) (λ p e. absurd (subst (IsStill env) e still.0)) h)

-- with what stands in the places of an arm that shows fields
parts_tested : (env : Environment) (t : Term) (bs : List Binding) (tests : List Test) (part : ℕ → Binding)
    → ((i : ℕ) (b : BindingId) → slice_get bs b.0 ≡ Some (part i) → (occurrence_at env (at (paths_of bs) b) ≡ []) × ((p : Path) → at (paths_of bs) b ≡ Inner p → ⊥))
    → (places : List (Option BindingId)) (i : ℕ) (bound : List ℕ) → AreParts (setting env t bs) part i places → BindsTested env (paths_of bs) tests bound → BindsTested env (paths_of bs) tests (bound_within bound places)
parts_tested env t bs tests part ok [] i bound are h = h
parts_tested env t bs tests part ok (None ∷ places) i bound are h = parts_tested env t bs tests part ok places (suc i) bound are.1 h
parts_tested env t bs tests part ok (Some b ∷ places) i bound are h =
    let one = ok i b are.0 in
    parts_tested env t bs tests part ok places (suc i) (bound ++ b.0 ∷ []) are.1 (tested_push env (paths_of bs) tests bound b one.0 (λ p e. absurd (one.1 p e)) h)

-- a field is neither a call nor an inner value
variant_field_plain : (env : Environment) (p : Path) (q : Path) (variant : VariantId) (field : ℕ) → p ≡ VariantField variant field q → (occurrence_at env p ≡ []) × ((r : Path) → p ≡ Inner r → ⊥)
variant_field_plain env p q variant field e = (ap (occurrence_at env) e, λ r k. cc)

struct_field_plain : (env : Environment) (p : Path) (q : Path) (field : ℕ) → p ≡ StructField field q → (occurrence_at env p ≡ []) × ((r : Path) → p ≡ Inner r → ⊥)
struct_field_plain env p q field e = (ap (occurrence_at env) e, λ r k. cc)

-- with what stands in the places of a test's arm
tested_places : (env : Environment) (t : Term) (bs : List Binding) (found : FieldKey → Option BindingId) (counts : Shown → Option ℕ) (inners : ℕ → Option BindingId) → FindsInners bs inners → (tests : List Test) (bound : List ℕ) (source : BindingId) (c : Constraint)
    → ArePlacesOf (setting env t bs) source c (shows found counts inners source c) → BindsTested env (paths_of bs) tests bound → BindsTested env (paths_of bs) (Is (at (paths_of bs) source) c ∷ tests) (bound_within bound (shows found counts inners source c))
tested_places env t bs found counts inners f tests bound source c places h = by_form c places (tested_more env ps tests (Is (at ps source) c ∷ tests) bound (λ x k. cons_later (Is (at ps source) c) x tests k) h)
  where
    ps : List Path
    ps = paths_of bs

    inner_tested : (o : Option BindingId) → inners source.0 ≡ o → BindsTested env ps (Is (at ps source) constraint.Some ∷ tests) bound → BindsTested env ps (Is (at ps source) constraint.Some ∷ tests) (bound_within bound (inner_place o))
    inner_tested None e k = k
    inner_tested (Some b) e k =
        let is = f.found source.0 b e in
        let path : at ps b ≡ Inner (at ps source) = inner_path bs source b is.0 is.1 in
        tested_push env ps (Is (at ps source) constraint.Some ∷ tests) bound b (ap (occurrence_at env) path)
        (λ p e'. cons_here (Is (at ps source) constraint.Some) (Is p constraint.Some) tests (ap (λ q. Is q constraint.Some) (same_inner (at ps source) p (sym path ∙ e')))) k
      where
        same_inner : (p q : Path) → Inner p ≡ Inner q → p ≡ q
        same_inner p q e = cc

    by_form : (d : Constraint) → ArePlacesOf (setting env t bs) source d (shows found counts inners source d) → BindsTested env ps (Is (at ps source) d ∷ tests) bound → BindsTested env ps (Is (at ps source) d ∷ tests) (bound_within bound (shows found counts inners source d))
    by_form constraint.Some are k = inner_tested (inners source.0) refl k
    by_form (constraint.Variant ty variant) are k =
        parts_tested env t bs (Is (at ps source) (constraint.Variant ty variant) ∷ tests) (λ i. binding.MatchVariant source variant (record { 0 = i }))
        (λ i b e. variant_field_plain env (at ps b) _ variant i (at_before bs b (binding.MatchVariant source variant (record { 0 = i })) e))
        (shows found counts inners source (constraint.Variant ty variant)) 0 bound are.1 k
    by_form (constraint.Struct ty) are k =
        parts_tested env t bs (Is (at ps source) (constraint.Struct ty) ∷ tests) (λ i. binding.ExtractStruct source (record { 0 = i }))
        (λ i b e. struct_field_plain env (at ps b) _ i (at_before bs b (binding.ExtractStruct source (record { 0 = i })) e))
        (shows found counts inners source (constraint.Struct ty)) 0 bound are.1 k
    by_form (constraint.ConstBool val) are k = k
    by_form (constraint.ConstInt val ty) are k = k
    by_form (constraint.ConstPrim val) are k = k

-- ---- after tests

-- what they show is bound, and of calls and inner values nothing else
pub record IsWithin (env : Environment) (ps : List Path) (tests : List Test) (bound : List ℕ) : Type 0 where
  pub behind : IsBehind ps tests [] bound
  pub tested : BindsTested env ps tests bound

pub within_none : (env : Environment) (ps : List Path) → IsWithin env ps [] []
within_none env ps = record { behind = behind_none ps; tested = tested_none env ps [] }

-- so of the same tests in another order
pub within_same : (env : Environment) (ps : List Path) (tests more : List Test) (bound : List ℕ) → ((x : Test) → Contains tests x → Contains more x) → ((x : Test) → Contains more x → Contains tests x) → IsWithin env ps more bound → IsWithin env ps tests bound
within_same env ps tests more bound less back h = record { behind = behind_fewer ps tests more [] bound less h.behind; tested = tested_more env ps more tests bound back h.tested }

pub within_needs : (env : Environment) (ps : List Path) (tests : List Test) (ns : List BindingId) (bound : List ℕ) → AreStill env ps ns → IsWithin env ps tests bound → IsWithin env ps tests (bound_by bound ns)
within_needs env ps tests ns bound still h = record { behind = behind_grows ps tests [] bound (bound_by bound ns) (by_kept ns bound) h.behind; tested = tested_needs env ps tests ns bound still h.tested }

pub within_places : (env : Environment) (t : Term) (bs : List Binding) (found : FieldKey → Option BindingId) (counts : Shown → Option ℕ) (inners : ℕ → Option BindingId) → FindsInners bs inners → (tests : List Test) (bound : List ℕ) (source : BindingId) (c : Constraint)
    → ArePlacesOf (setting env t bs) source c (shows found counts inners source c) → IsWithin env (paths_of bs) tests bound → IsBehind (paths_of bs) (Is (at (paths_of bs) source) c ∷ tests) [] (bound_within bound (shows found counts inners source c))
    → IsWithin env (paths_of bs) (Is (at (paths_of bs) source) c ∷ tests) (bound_within bound (shows found counts inners source c))
within_places env t bs found counts inners f tests bound source c places h k = record { behind = k; tested = tested_places env t bs found counts inners f tests bound source c places h.tested }

-- ---- calls that were bound

both_true : (a b : Bool) → (a && b) ≡ true → (a ≡ true) × (b ≡ true)
both_true true b e = (refl, e)
both_true false b e = cc

-- the call is bound
pub call_there : (next : ℕ → Option BindingId) (bound : List ℕ) (c : BindingId) → was_bound next bound c ≡ true → Contains bound c.0
call_there next bound c e = pick (next c.0) e
  where
    pick : (o : Option BindingId) → bound_with bound c o ≡ true → Contains bound c.0
    pick None is = contained bound c.0 is
    pick (Some b) is = contained bound c.0 (both_true (is_bound bound c) (is_bound bound b) is).0

-- and what stands after it
pub next_there : (next : ℕ → Option BindingId) (bound : List ℕ) (c b : BindingId) → next c.0 ≡ Some b → was_bound next bound c ≡ true → Contains bound b.0
next_there next bound c b has e = contained bound b.0 (both_true (is_bound bound c) (is_bound bound b) (sym (ap (bound_with bound c) has) ∙ e)).1

-- after tests such a call was tested
pub was_tested : (env : Environment) (bs : List Binding) (next : ℕ → Option BindingId) (tests : List Test) (bound : List ℕ) → BindsTested env (paths_of bs) tests bound → AreTested env bs next tests bound
was_tested env bs next tests bound h c e = record {
  uncalled = h.uncalled c (call_there next bound c e);
  found = λ b has is. h.shown b (at (paths_of bs) c) (next_there next bound c b has e) is;
}

-- after such a call
pub behind_bound : (tests : List Test) (done : List Path) (bs : List Binding) (next : ℕ → Option BindingId) (start bound : List ℕ) (c : BindingId) (kind : ReturnKind) → EachOnce (paths_of bs) → IsThere (at (paths_of bs) c) → HasNext bs next c kind
    → was_bound next start c ≡ true → Keeps start bound → IsBehind (paths_of bs) tests done bound → IsBehind (paths_of bs) tests (at (paths_of bs) c ∷ done) bound
behind_bound tests done bs next start bound c kind once there has e keeps h = pick kind has
  where
    ps : List Path
    ps = paths_of bs

    p : Path
    p = at ps c

    pick : (any : ReturnKind) → HasNext bs next c any → IsBehind ps tests (at ps c ∷ done) bound
    pick return_kind.Plain (has_none none no_inner no_item) =
        behind_next ps tests done bound bound c once there (λ n j. j) (keeps c.0 (call_there next start c e)) (adds_none ps c (Inner p) bound tt no_inner) (adds_none ps c (Chosen p) bound tt no_item) h
    pick return_kind.Option (has_inner b one stands path no_item) =
        behind_next ps tests done bound bound c once there (λ n j. j) (keeps c.0 (call_there next start c e)) (adds_one ps c b (Inner p) bound once tt path (keeps b.0 (next_there next start c b one e))) (adds_none ps c (Chosen p) bound tt no_item) h
    pick return_kind.Iterator (has_item b one stands path no_inner) =
        behind_next ps tests done bound bound c once there (λ n j. j) (keeps c.0 (call_there next start c e)) (adds_none ps c (Inner p) bound tt no_inner) (adds_one ps c b (Chosen p) bound once tt path (keeps b.0 (next_there next start c b one e))) h
