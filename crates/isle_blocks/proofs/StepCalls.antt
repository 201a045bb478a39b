-- What is known after the bind order of a step, in a term that answers several times.
use Rattle.std.proofs.Common.{◌≡◌, ◌⊎◌, inl, inr, ⊎_elim, ℕ, List, [], ◌∷◌, ◌++◌, Bool, true, false, cond, eqb, Option, Some, None, take, refl, sym, ap, ◌∙◌, subst}
use Rattle.std.specs.Prelude.{slice_get, Contains}
use Rattle.std.specs.List.{AllByRecursion}
use Rattle.std.proofs.lemmas.Bool.{eqb-true}
use Rattle.std.proofs.lemmas.List.Elements.{Contains-append_left, Contains-append_right}
use Rattle.isle_core.specs.declared.BindingId.{BindingId}
use Rattle.isle_core.specs.declared.rule_sets.Binding.{Binding}
use Rattle.isle_core.specs.declared.rule_sets.Binding.TheVariants as binding
use Rattle.isle_core.specs.declared.types.ReturnKind.{ReturnKind}
use Rattle.isle_core.specs.declared.types.ReturnKind.TheVariants as return_kind
use Rattle.isle_core.specs.declared.values.Callee.{Callee}
use Rattle.isle_core.specs.Bindable.{IsBindable, AreBindable}
use Rattle.isle_core.specs.Block.{Control, Match, Equal, Loop, Return}
use Rattle.isle_core.specs.BlockRun.{bind_one, bind_all, check_inner}
use Rattle.isle_core.specs.Calling.{Calling, ByTurns, ByCases, NoCall, calling, kind_of, is_several, may_be_nothing}
use Rattle.isle_core.specs.CallRun.{Went, Goes, Ends, then_go, take_turn, make_call, make}
use Rattle.isle_core.specs.Match.{with}
use Rattle.isle_core.specs.Meaning.{Meaning, turn}
use Rattle.isle_core.specs.Occurrences.{occurrence, occurrence_at, occurrences, after_control, after_arms, after_block}
use Rattle.isle_core.specs.Parts.{Given}
use Rattle.isle_core.specs.Path.{Path, Called, Inner, at, path_over}
use Rattle.isle_core.specs.Rule.{Environment}
use Rattle.isle_core.specs.SeveralRun.{behind_calls}
use Rattle.isle_core.specs.Setting.{Setting, gives_several, paths_in}
use Rattle.isle_core.specs.Value.{Value, Answer, Made}
use Rattle.isle_core.specs.ValueAt.{Known, values_at, answered_too}
use Rattle.isle_core.proofs.BindingPaths.{IsThere, at_before, binding_at}
use Rattle.isle_core.proofs.Contained.{head_contained}
use Rattle.isle_core.proofs.HeldStays.{Grows}
use Rattle.isle_blocks.specs.Added.{KnowsOnly}
use Rattle.isle_blocks.proofs.OpenedSteps.{Within}

-- ---- what is known after bindings

-- a run goes on, and then this holds
abbrev pub WentOn : (Known → Type 0) → Went → Type 0
WentOn P (Goes known made) = P known
WentOn P (Ends o) = ⊥

pub then_on : (P Q : Known → Type 0) (w : Went) (go : Known → List Made → Went) → WentOn P w → ((known : Known) (made : List Made) → P known → WentOn Q (go known made)) → WentOn Q (then_go w go)
then_on P Q (Goes known made) go p h = h known made p
then_on P Q (Ends o) go p h = absurd p

with_cases : (f : ℕ → Option Answer) (n k : ℕ) (a x : Answer) → with f n a k ≡ Some x → (n ≡ k) ⊎ (f k ≡ Some x)
with_cases f n k a x e = pick (eqb n k) refl e
  where
    pick : (b : Bool) → eqb n k ≡ b → cond b (Some a) (f k) ≡ Some x → (n ≡ k) ⊎ (f k ≡ Some x)
    pick true is e' = inl (eqb-true n k is)
    pick false is e' = inr e'

turn_knows : (m : Meaning) (callee : Callee) (n : ℕ) (o : Option Answer) (vs : Option (List Value)) (known : Known) (made : List Made) (ks : List ℕ) → Contains ks n → KnowsOnly ks known → WentOn (KnowsOnly ks) (take_turn m callee n o vs known made)
turn_knows m callee n (Some a) vs known made ks c h = h
turn_knows m callee n None (Some vs) known made ks c h =
    record { answers = λ k x e. ⊎_elim (λ is. subst (Contains ks) is c) (λ old. h.answers k x old) (with_cases known.answers n k (turn m callee made) x e); choice = h.choice }
turn_knows m callee n None None known made ks c h = h

call_knows : (m : Meaning) (c : Calling) (n : ℕ) (vs : Option (List Value)) (known : Known) (made : List Made) (ks : List ℕ) → Within (Contains ks) (occurrence c n) → KnowsOnly ks known → WentOn (KnowsOnly ks) (make_call m c n vs known made)
call_knows m (ByTurns callee kind) n vs known made ks w h = turn_knows m callee n (known.answers n) vs known made ks (w n (head_contained n [])) h
call_knows m (ByCases callee kind) n vs known made ks w h = h
call_knows m NoCall n vs known made ks w h = h

module _ (env : Environment) (m : Meaning) (args : List Value) where
  make_knows : (p : Path) (known : Known) (made : List Made) (ks : List ℕ) → Within (Contains ks) (occurrence_at env p) → KnowsOnly ks known → WentOn (KnowsOnly ks) (make env m args p known made)
  make_knows (Called term ps n) known made ks w h = call_knows m (calling env term) n (values_at env m args known ps) known made ks w h
  make_knows p known made ks w h = h

  -- a path that is no inner value
  abbrev pub NotInner : Path → Type 0
  NotInner p = (q : Path) → p ≡ Inner q → ⊥

  check_knows : (p : Path) (known : Known) (made : List Made) (ks : List ℕ) → NotInner p → KnowsOnly ks known → WentOn (KnowsOnly ks) (check_inner env m args p known made)
  check_knows (Inner q) known made ks other h = absurd (other q refl)
  check_knows p known made ks other h = h

  pub bind_knows : (ps : List Path) (order : List BindingId) (known : Known) (made : List Made) (ks : List ℕ) → AllByRecursion (λ (b : BindingId). NotInner (at ps b)) order → Within (Contains ks) (occurrences env ps order) → KnowsOnly ks known
      → WentOn (KnowsOnly ks) (bind_all env m args ps order known made)
  bind_knows ps [] known made ks other w h = h
  bind_knows ps (b ∷ order) known made ks other w h =
      then_on (KnowsOnly ks) (KnowsOnly ks) (bind_one env m args (at ps b) known made) (bind_all env m args ps order)
      (then_on (KnowsOnly ks) (KnowsOnly ks) (make env m args (at ps b) known made) (check_inner env m args (at ps b))
      (make_knows (at ps b) known made ks (λ k c. w k (Contains-append_left (occurrence_at env (at ps b)) (occurrences env ps order) k c)) h)
      (λ k d p. check_knows (at ps b) k d ks other.0 p))
      (λ k d p. bind_knows ps order k d ks other.1 (λ n c. w n (Contains-append_right (occurrence_at env (at ps b)) (occurrences env ps order) n c)) p)

  -- what a step adds, and then what the steps after it add
  pub step_then : (P : Known → Type 0) (w : Went) (g : Given) (one rest : Known → Given → Given) (goal : Given → Given) → WentOn P w → ((now : Known) (so : Given) → P now → rest now so ≡ goal so) → behind_calls w g (λ now so. rest now (one now so)) ≡ goal (behind_calls w g one)
  step_then P (Goes known made) g one rest goal p h = h known (one known (record { results = g.results; calls = made })) p
  step_then P (Ends o) g one rest goal p h = absurd p

pub knows_more : (ks js : List ℕ) (known : Known) → ((k : ℕ) → Contains ks k → Contains js k) → KnowsOnly ks known → KnowsOnly js known
knows_more ks js known more h = record { answers = λ k a e. more k (h.answers k a e); choice = h.choice }

-- ---- what is known stays

-- both are so
pub went_both : (P Q : Known → Type 0) (w : Went) → WentOn P w → WentOn Q w → WentOn (λ known. P known × Q known) w
went_both P Q (Goes known made) p q = (p, q)
went_both P Q (Ends o) p q = p

pub grows_none : (known : Known) → Grows known known
grows_none known = record { by = λ k a e. e; choice = refl }

pub grows_twice : (known later last : Known) → Grows known later → Grows later last → Grows known last
grows_twice known later last g h = record { by = λ k a e. h.by k a (g.by k a e); choice = h.choice ∙ g.choice }

answer_grows : (known : Known) (n : ℕ) (a : Answer) → known.answers n ≡ None → Grows known (answered_too known n a)
answer_grows known n a new = record { by = λ k x e. one k x e (eqb n k) refl; choice = refl }
  where
    one : (k : ℕ) (x : Answer) → known.answers k ≡ Some x → (b : Bool) → eqb n k ≡ b → cond b (Some a) (known.answers k) ≡ Some x
    one k x e true is = let bad = sym e ∙ ap known.answers (sym (eqb-true n k is)) ∙ new in absurd cc
    one k x e false is = e

turn_grows : (m : Meaning) (callee : Callee) (n : ℕ) (o : Option Answer) (vs : Option (List Value)) (known : Known) (made : List Made) → known.answers n ≡ o → WentOn (Grows known) (take_turn m callee n o vs known made)
turn_grows m callee n (Some a) vs known made e = grows_none known
turn_grows m callee n None (Some vs) known made e = answer_grows known n (turn m callee made) e
turn_grows m callee n None None known made e = grows_none known

call_grows : (m : Meaning) (c : Calling) (n : ℕ) (vs : Option (List Value)) (known : Known) (made : List Made) → WentOn (Grows known) (make_call m c n vs known made)
call_grows m (ByTurns callee kind) n vs known made = turn_grows m callee n (known.answers n) vs known made refl
call_grows m (ByCases callee kind) n vs known made = grows_none known
call_grows m NoCall n vs known made = grows_none known

module _ (env : Environment) (m : Meaning) (args : List Value) where
  make_grows : (p : Path) (known : Known) (made : List Made) → WentOn (Grows known) (make env m args p known made)
  make_grows (Called term ps n) known made = call_grows m (calling env term) n (values_at env m args known ps) known made
  make_grows p known made = grows_none known

  check_grows : (p : Path) (start known : Known) (made : List Made) → NotInner env m args p → Grows start known → WentOn (Grows start) (check_inner env m args p known made)
  check_grows (Inner q) start known made other h = absurd (other q refl)
  check_grows p start known made other h = h

  pub bind_grows : (ps : List Path) (order : List BindingId) (start known : Known) (made : List Made) → AllByRecursion (λ (b : BindingId). NotInner env m args (at ps b)) order → Grows start known → WentOn (Grows start) (bind_all env m args ps order known made)
  bind_grows ps [] start known made other h = h
  bind_grows ps (b ∷ order) start known made other h =
      then_on (Grows start) (Grows start) (bind_one env m args (at ps b) known made) (bind_all env m args ps order)
      (then_on (Grows known) (Grows start) (make env m args (at ps b) known made) (check_inner env m args (at ps b)) (make_grows (at ps b) known made)
      (λ k d p. check_grows (at ps b) start k d other.0 (grows_twice start known k h p)))
      (λ k d p. bind_grows ps order start k d other.1 p)

-- ---- a step's own order

-- what may be bound in a term that answers several times is no inner value
not_inner : (s : Setting) (bound : List ℕ) (b : BindingId) → gives_several s ≡ true → IsBindable s bound (at (paths_in s) b) (slice_get s.bindings b.0) → (q : Path) → at (paths_in s) b ≡ Inner q → ⊥
not_inner s bound b often h q e =
    let x = binding_at s.bindings b (subst IsThere (sym e) tt) in
    pick x.0 (subst (IsBindable s bound (at (paths_in s) b)) x.1 h) (sym (at_before s.bindings b x.0 x.1) ∙ e)
  where
    never : (kind : ReturnKind) → is_several kind ≡ true → may_be_nothing kind ≡ true → ⊥
    never return_kind.Plain is nothing = cc
    never return_kind.Option is nothing = cc
    never return_kind.Iterator is nothing = cc

    pick : (x : Binding) → IsBindable s bound (at (paths_in s) b) (Some x) → path_over (take b.0 (paths_in s)) x ≡ Inner q → ⊥
    pick (binding.MatchSome source) k is = never (kind_of s.term.kind) often k.fits
    pick x k is = cc

pub all_not_inner : (s : Setting) (order : List BindingId) (bound : List ℕ) → gives_several s ≡ true → AreBindable s bound order → AllByRecursion (λ (b : BindingId). (q : Path) → at (paths_in s) b ≡ Inner q → ⊥) order
all_not_inner s [] bound often h = tt
all_not_inner s (b ∷ order) bound often h = (not_inner s bound b often h.0, all_not_inner s order (bound ++ b.0 ∷ []) often h.1)

-- where a step goes on, its own calls were made
pub after_has : (env : Environment) (ps : List Path) (P : ℕ → Type 0) (c : Control) (made : List ℕ) → Within P (after_control true env ps made c) → Within P made
after_has env ps P (Match source arms) made h k c = h k (Contains-append_left made (after_arms true env ps made arms) k c)
after_has env ps P (Equal a b body) made h k c = h k (Contains-append_left made (after_block true env ps made body) k c)
after_has env ps P (Loop result body) made h k c = h k (Contains-append_left made (after_block true env ps made body) k c)
after_has env ps P (Return pos result) made h k c = h k c
