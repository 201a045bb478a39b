-- Bindings use the terms that their paths call.
use Rattle.std.proofs.Common.{◌≡◌, ⊎_elim, ℕ, zero, suc, List, [], ◌∷◌, Bool, true, false, cond, not, Option, Some, None, refl, sym, ap, subst, take}
use Rattle.std.specs.Prelude.{Contains, slice_get}
use Rattle.std.proofs.lemmas.List.Elements.{Contains-append_cases, Contains-append_left, Contains-append_right}
use Rattle.isle_core.specs.declared.TermId.{TermId}
use Rattle.isle_core.specs.declared.rule_sets.Binding.{Binding}
use Rattle.isle_core.specs.declared.rule_sets.Binding.TheVariants as binding
use Rattle.isle_core.specs.declared.types.Term.{Term}
use Rattle.isle_core.specs.CalledTerms.{Role, Extractor, Constructor, CalledTerm, is_made_kind, is_made_term}
use Rattle.isle_core.specs.Path.{Path, Called, Extracted, at, path_over, paths_of}
use Rattle.isle_core.specs.Rule.{Environment}
use Rattle.isle_core.proofs.BindingPaths.{IsThere, path_before, placed, at_before, binding_at}
use Rattle.isle_core.proofs.Contained.{head_contained, tail_contained, contained_cases, none_contained}
use Rattle.isle_core.proofs.ExprPaths.{constructed}
use Rattle.isle_checks.specs.ClosedWalks.{is_declared, used, used_by, uses_of}
use Rattle.isle_checks.proofs.CallPaths.{extracted, IsCallOf, HasCall}
use Rattle.isle_checks.proofs.WalkLaws.{uses_declared}

-- ---- one binding

used_is : (terms : List Term) (id other : TermId) → Contains (used terms id) other → id ≡ other
used_is terms id other c = by (is_declared (slice_get terms id.0)) c
  where
    by : (b : Bool) → Contains (cond b (id ∷ []) []) other → id ≡ other
    by true k = ⊎_elim (λ is. is) (λ d. absurd (none_contained other d)) (contained_cases id [] other k)
    by false k = absurd (none_contained other k)

-- a binding that uses a term is a call of it
used_call : (terms : List Term) (b : Binding) (id : TermId) (ps : List Path) → Contains (used_by terms b) id → (role : Role) × IsCallOf (record { term = id; role = role }) (path_over ps b)
used_call terms (binding.Constructor term parameters instance) id ps c = (Constructor, ap constructed (sym (used_is terms term id c)))
used_call terms (binding.Extractor term parameter) id ps c = (Extractor, ap extracted (sym (used_is terms term id c)))
used_call terms b id ps c = absurd (none_contained id c)

is_used : (terms : List Term) (id term : TermId) → is_declared (slice_get terms id.0) ≡ true → id ≡ term → Contains (used terms term) id
is_used terms id term d e = subst (λ (x : TermId). Contains (used terms x) id) e (subst (λ b. Contains (cond b (id ∷ []) []) id) (sym d) (head_contained id []))

-- a binding that is a call of a declared term uses it
call_used : (terms : List Term) (b : Binding) (o : CalledTerm) (ps : List Path) → is_declared (slice_get terms o.term.0) ≡ true → IsCallOf o (path_over ps b) → Contains (used_by terms b) o.term
call_used terms (binding.Constructor term parameters instance) o ps d e = is_used terms o.term term d (ap (λ (x : CalledTerm). x.term) e)
call_used terms (binding.Extractor term parameter) o ps d e = is_used terms o.term term d (ap (λ (x : CalledTerm). x.term) e)
call_used terms b o ps d e = absurd e

-- ---- bindings in order

-- a binding of these that uses a term
record UsedAt (terms : List Term) (bs : List Binding) (id : TermId) : Type 0 where
  place : ℕ
  bound : Binding
  is : slice_get bs place ≡ Some bound
  uses : Contains (used_by terms bound) id

used_at : (terms : List Term) (bs : List Binding) (id : TermId) → Contains (uses_of terms bs) id → UsedAt terms bs id
used_at terms [] id c = absurd (none_contained id c)
used_at terms (b ∷ bs) id c = ⊎_elim
    (λ d. record { place = 0; bound = b; is = refl; uses = d })
    (λ d. let u = used_at terms bs id d in record { place = suc u.place; bound = u.bound; is = u.is; uses = u.uses })
    (Contains-append_cases (used_by terms b) (uses_of terms bs) id c)

at_used : (terms : List Term) (bs : List Binding) (i : ℕ) (b : Binding) (id : TermId) → slice_get bs i ≡ Some b → Contains (used_by terms b) id → Contains (uses_of terms bs) id
at_used terms [] i b id e c = cc
at_used terms (x ∷ bs) zero b id e c = let same : x ≡ b = cc in Contains-append_left (used_by terms x) (uses_of terms bs) id (subst (λ y. Contains (used_by terms y) id) (sym same) c)
at_used terms (x ∷ bs) (suc i) b id e c = Contains-append_right (used_by terms x) (uses_of terms bs) id (at_used terms bs i b id e c)

place_contained : (ps : List Path) (i : ℕ) (p : Path) → slice_get ps i ≡ Some p → Contains ps p
place_contained [] i p e = cc
place_contained (q ∷ ps) zero p e = let same : q ≡ p = cc in subst (Contains (q ∷ ps)) same (head_contained q ps)
place_contained (q ∷ ps) (suc i) p e = tail_contained q ps p (place_contained ps i p e)

declared_unmade : (t : Option Term) → is_declared t ≡ true → is_made_term t ≡ false
declared_unmade None e = cc
declared_unmade (Some t) e = by (is_made_kind t.kind) e
  where
    by : (b : Bool) → not b ≡ true → b ≡ false
    by true h = cc
    by false h = refl

call_there : (o : CalledTerm) (p : Path) → IsCallOf o p → IsThere p
call_there o (Called term ps instance) e = tt
call_there o (Extracted term p) e = tt
call_there o p e = absurd e

-- a term that bindings use is called by one of their paths
pub use_call : (env : Environment) (bs : List Binding) (id : TermId) → Contains (uses_of env.terms bs) id → (role : Role) × HasCall env (record { term = id; role = role }) (paths_of bs)
use_call env bs id c =
    let u = used_at env.terms bs id c in
    let ps = take u.place (paths_of bs) in
    let call = used_call env.terms u.bound id ps u.uses in (
      call.0,
      record {
        answer = path_over ps u.bound;
        among = place_contained (paths_of bs) u.place (path_over ps u.bound) (path_before bs u.place u.bound u.is);
        calls = call.1;
        unmade = declared_unmade (slice_get env.terms id.0) (uses_declared env.terms bs id c);
      },
    )

-- a declared term that one of their paths calls is used by them
pub call_use : (env : Environment) (bs : List Binding) (o : CalledTerm) → is_declared (slice_get env.terms o.term.0) ≡ true → HasCall env o (paths_of bs) → Contains (uses_of env.terms bs) o.term
call_use env bs o d h =
    let b = placed (paths_of bs) h.answer h.among in
    let there : IsCallOf o (at (paths_of bs) b.0) = subst (IsCallOf o) (sym b.1) h.calls in
    let x = binding_at bs b.0 (call_there o (at (paths_of bs) b.0) there) in
    at_used env.terms bs b.0.0 x.0 o.term x.1 (call_used env.terms x.0 o (take b.0.0 (paths_of bs)) d (subst (IsCallOf o) (at_before bs b.0 x.0 x.1) there))
