-- One equality more joins two classes.
use Rattle.std.proofs.Common.{◌≡◌, ◌⊎◌, inl, inr, ⊎_elim, ℕ, ◌+◌, ◌<◌, List, [], ◌∷◌, ◌++◌, length, get_or, take, Bool, true, false, eqb, Some, refl, sym, ap, ◌∙◌, subst}
use Rattle.std.specs.Prelude.{Contains, if◌then◌else◌}
use Rattle.std.specs.Cmp.{Equal-is, nat_cmp_is}
use Rattle.std.specs.declared.cmp.Ordering.TheVariants.{Equal}
use Rattle.std.specs.Ordering.{is_eq}
use Rattle.std.specs.Option.{unwrap_or}
use Rattle.std.specs.BTreeMap.{BTreeMap, Updates}
use Rattle.std.specs.Global.{Vec}
use Rattle.std.proofs.lemmas.Bool.{cases_eq, eqb-true, eq-eqb}
use Rattle.std.proofs.lemmas.List.{take_more}
use Rattle.std.proofs.lemmas.List.Elements.{Contains-append_left, Contains-append_right, Contains-append_cases, Contains-push, Contains-push_cases}
use Rattle.std.proofs.lemmas.Map.Lookups.{exact_unsigned}
use Rattle.isle_core.specs.declared.BindingId.{BindingId}
use Rattle.isle_core.proofs.Contained.{none_contained}
use Rattle.isle_checks.specs.Joined.{Equalities, AreEquated, AreJoined}
use Rattle.isle_checks.specs.Classes.{binding_cmp, representative, members, AreClassesOf, Relabels, Puts}
use Rattle.isle_checks.proofs.JoinedLaws.{one_step, then_joined, joined_back, joined_kept}

-- ---- bindings by their order

pub same_or_not : (b c : BindingId) → (b ≡ c) ⊎ (b ≡ c → ⊥)
same_or_not b c = ⊎_elim (λ (e : b.0 ≡ c.0). inl (ap (λ n. record { 0 = n }) e)) (λ (n : b.0 ≡ c.0 → ⊥). inr (λ e. n (ap (λ (x : BindingId). x.0) e))) (cases_eq b.0 c.0)

pub ids_same : (b c : BindingId) → eqb b.0 c.0 ≡ true → b ≡ c
ids_same b c e = ap (λ n. record { 0 = n }) (eqb-true b.0 c.0 e)

pub ids_differ : (b c : BindingId) → eqb b.0 c.0 ≡ false → b ≡ c → ⊥
ids_differ b c e same = true_false (sym (eq-eqb b.0 c.0 (ap (λ (x : BindingId). x.0) same)) ∙ e)
  where
    true_false : true ≡ false → ⊥
    true_false f = cc

itself : (b : BindingId) → is_eq (binding_cmp b b) ≡ true
itself b = ap is_eq (sym (nat_cmp_is b.0 b.0 Equal refl))

pub apart : (b c : BindingId) → (b ≡ c → ⊥) → is_eq (binding_cmp b c) ≡ false
apart b c n = by (is_eq (binding_cmp b c)) refl
  where
    by : (t : Bool) → is_eq (binding_cmp b c) ≡ t → t ≡ false
    by true e = absurd (n (ap (λ k. record { 0 = k }) (exact_unsigned b.0 c.0 ((Equal-is (binding_cmp b c)).0 e))))
    by false e = refl

-- ---- representatives

module _ (old mid new : BTreeMap BindingId BindingId) (bindings : List BindingId) (i : ℕ) (x : BindingId) (to : BindingId) (lt : i < length bindings) (is : x ≡ get_or bindings i x) (u : Updates binding_cmp mid new x (Some to)) (h : Relabels old mid (take i bindings) to) where
  more : take (i + 1) bindings ≡ take i bindings ++ x ∷ []
  more = take_more bindings i x lt ∙ ap (λ y. take i bindings ++ y ∷ []) (sym is)

  here : (b : BindingId) → x ≡ b → representative new b ≡ to
  here b e = subst (λ q. representative new q ≡ to) e (ap (λ o. unwrap_or o x) u.1)

  elsewhere : (b : BindingId) → (x ≡ b → ⊥) → representative new b ≡ representative mid b
  elsewhere b n = ap (λ o. unwrap_or o b) (u.2 b (apart x b n))

  -- one binding more got the representative
  pub relabel_more : Relabels old new (take (i + 1) bindings) to
  relabel_more = record {
    moved = λ b c. ⊎_elim
        (λ (d : Contains (take i bindings) b). ⊎_elim (λ e. here b e) (λ n. elsewhere b n ∙ h.moved b d) (same_or_not x b))
        (λ (e : x ≡ b). here b e)
        (Contains-push_cases (take i bindings) x b (subst (λ xs. Contains xs b) more c));
    kept = λ b n.
        let apart_from : x ≡ b → ⊥ = λ e. n (subst (Contains (take (i + 1) bindings)) e (subst (λ xs. Contains xs x) (sym more) (Contains-push (take i bindings) x))) in
        elsewhere b apart_from ∙ h.kept b (λ d. n (subst (λ xs. Contains xs b) (sym more) (Contains-append_left (take i bindings) (x ∷ []) b d)));
  }

-- ---- members

put_at : (old new : BTreeMap BindingId (Vec BindingId)) (r : BindingId) (xs : List BindingId) → Puts old new r xs → members new r ≡ xs
put_at old new r xs h = h r ∙ ap (λ (t : Bool). if t then xs else members old r) (itself r)

put_elsewhere : (old new : BTreeMap BindingId (Vec BindingId)) (r q : BindingId) (xs : List BindingId) → Puts old new r xs → (r ≡ q → ⊥) → members new q ≡ members old q
put_elsewhere old new r q xs h n = h q ∙ ap (λ (t : Bool). if t then xs else members old q) (apart r q n)

-- ---- the new classes

module _ (es : Equalities) (e : BindingId × BindingId) (x y from to : BindingId) (rep new : BindingId → BindingId) (mem mem' : BindingId → List BindingId)
    (old : AreClassesOf es rep mem) (ends : (e ≡ (x, y)) ⊎ (e ≡ (y, x))) (from_is : from ≡ rep x) (to_is : to ≡ rep y) (differ : from ≡ to → ⊥)
    (moved : (b : BindingId) → Contains (mem from) b → new b ≡ to) (kept : (b : BindingId) → (Contains (mem from) b → ⊥) → new b ≡ rep b)
    (at_to : mem' to ≡ mem to ++ mem from) (at_from : mem' from ≡ []) (others : (q : BindingId) → (to ≡ q → ⊥) → (from ≡ q → ⊥) → mem' q ≡ mem q) where
  moved_by : (b : BindingId) → rep b ≡ from → new b ≡ to
  moved_by b k = moved b (subst (λ r. Contains (mem r) b) k (old.each b))

  kept_by : (b : BindingId) → (rep b ≡ from → ⊥) → new b ≡ rep b
  kept_by b n = kept b (λ c. n (old.only from b c))

  abbrev all : Equalities
  all = es ++ e ∷ []

  equated : AreEquated all x y
  equated = ⊎_elim (λ (k : e ≡ (x, y)). inl (subst (Contains all) k (Contains-push es e))) (λ (k : e ≡ (y, x)). inr (subst (Contains all) k (Contains-push es e))) ends

  -- the one class leads to the other
  led : AreJoined all from to
  led =
      then_joined all from x to (subst (λ r. AreJoined all r x) (sym from_is) (joined_back all x (rep x) (joined_kept es e x (rep x) (old.joined x))))
      (then_joined all x y to (one_step all x y equated) (subst (AreJoined all y) (sym to_is) (joined_kept es e y (rep y) (old.joined y))))

  to_end : new x ≡ new y
  to_end = moved_by x (sym from_is) ∙ to_is ∙ sym (kept_by y (λ k. differ (sym k ∙ sym to_is)))

  one_kept : (a b : BindingId) → rep a ≡ rep b → new a ≡ new b
  one_kept a b k = ⊎_elim
      (λ (f : rep a ≡ from). moved_by a f ∙ sym (moved_by b (sym k ∙ f)))
      (λ (n : rep a ≡ from → ⊥). kept_by a n ∙ k ∙ sym (kept_by b (λ f. n (k ∙ f))))
      (same_or_not (rep a) from)

  each_kept : (b : BindingId) → Contains (mem' (new b)) b
  each_kept b = ⊎_elim
      (λ (f : rep b ≡ from). subst (λ r. Contains (mem' r) b) (sym (moved_by b f)) (subst (λ xs. Contains xs b) (sym at_to) (Contains-append_right (mem to) (mem from) b (subst (λ r. Contains (mem r) b) f (old.each b)))))
      (λ (n : rep b ≡ from → ⊥). subst (λ r. Contains (mem' r) b) (sym (kept_by b n)) (⊎_elim
      (λ (k : to ≡ rep b). subst (λ r. Contains (mem' r) b) k (subst (λ xs. Contains xs b) (sym at_to) (Contains-append_left (mem to) (mem from) b (subst (λ r. Contains (mem r) b) (sym k) (old.each b)))))
      (λ (k : to ≡ rep b → ⊥). subst (λ xs. Contains xs b) (sym (others (rep b) k (λ f. n (sym f)))) (old.each b))
      (same_or_not to (rep b))))
      (same_or_not (rep b) from)

  -- what stays has a representative other than the one that is gone
  only_elsewhere : (r b : BindingId) → (from ≡ r → ⊥) → Contains (mem r) b → new b ≡ r
  only_elsewhere r b n c = let k = old.only r b c in kept_by b (λ f. n (sym f ∙ k)) ∙ k

  only_kept : (r b : BindingId) → Contains (mem' r) b → new b ≡ r
  only_kept r b c = ⊎_elim
      (λ (k : to ≡ r). ⊎_elim
      (λ d. only_elsewhere to b differ d ∙ k)
      (λ d. moved b d ∙ k)
      (Contains-append_cases (mem to) (mem from) b (subst (λ xs. Contains xs b) at_to (subst (λ q. Contains (mem' q) b) (sym k) c))))
      (λ (n : to ≡ r → ⊥). ⊎_elim
      (λ (k : from ≡ r). absurd (none_contained b (subst (λ xs. Contains xs b) at_from (subst (λ q. Contains (mem' q) b) (sym k) c))))
      (λ (m : from ≡ r → ⊥). only_elsewhere r b m (subst (λ xs. Contains xs b) (others r n m) c))
      (same_or_not from r))
      (same_or_not to r)

  classes_joined : AreClassesOf all new mem'
  classes_joined = record {
    joined = λ b. ⊎_elim
        (λ (f : rep b ≡ from). subst (AreJoined all b) (sym (moved_by b f)) (then_joined all b from to (subst (AreJoined all b) f (joined_kept es e b (rep b) (old.joined b))) led))
        (λ (n : rep b ≡ from → ⊥). subst (AreJoined all b) (sym (kept_by b n)) (joined_kept es e b (rep b) (old.joined b)))
        (same_or_not (rep b) from);
    one = λ z c. ⊎_elim
        (λ d. one_kept z.0 z.1 (old.one z d))
        (λ (k : e ≡ z). ⊎_elim
        (λ (f : e ≡ (x, y)). subst (λ (p : BindingId × BindingId). new p.0 ≡ new p.1) (sym f ∙ k) to_end)
        (λ (f : e ≡ (y, x)). subst (λ (p : BindingId × BindingId). new p.0 ≡ new p.1) (sym f ∙ k) (sym to_end))
        ends)
        (Contains-push_cases es e z c);
    each = each_kept;
    only = only_kept;
  }

-- ---- joining

module _ (es : Equalities) (a b one other : BindingId) (reps new : BTreeMap BindingId BindingId) (m0 m1 m2 m3 : BTreeMap BindingId (Vec BindingId)) (some more : List BindingId)
    (one_is : one ≡ representative reps a) (other_is : other ≡ representative reps b) (differ : one ≡ other → ⊥)
    (some_is : some ≡ members m0 one) (first : Puts m0 m1 one []) (more_is : more ≡ members m1 other) (second : Puts m1 m2 other [])
    (old : AreClassesOf es (representative reps) (members m0)) where
  more_was : more ≡ members m0 other
  more_was = more_is ∙ put_elsewhere m0 m1 one other [] first differ

  one_gone : members m2 one ≡ []
  one_gone = put_elsewhere m1 m2 other one [] second (λ e. differ (sym e)) ∙ put_at m0 m1 one [] first

  other_gone : members m2 other ≡ []
  other_gone = put_at m1 m2 other [] second

  stays : (q : BindingId) → (one ≡ q → ⊥) → (other ≡ q → ⊥) → members m2 q ≡ members m0 q
  stays q n k = put_elsewhere m1 m2 other q [] second k ∙ put_elsewhere m0 m1 one q [] first n

  -- the first class moved to the second
  pub first_moved : Relabels reps new some other → Puts m2 m3 other (more ++ some) → AreClassesOf (es ++ (a, b) ∷ []) (representative new) (members m3)
  first_moved r p = classes_joined es (a, b) a b one other (representative reps) (representative new) (members m0) (members m3) old (inl refl) one_is other_is differ
      (λ q c. r.moved q (subst (λ xs. Contains xs q) (sym some_is) c)) (λ q n. r.kept q (λ c. n (subst (λ xs. Contains xs q) some_is c)))
      (put_at m2 m3 other (more ++ some) p ∙ ap (λ xs. xs ++ some) more_was ∙ ap (λ xs. members m0 other ++ xs) some_is)
      (put_elsewhere m2 m3 other one (more ++ some) p (λ e. differ (sym e)) ∙ one_gone)
      (λ q k n. put_elsewhere m2 m3 other q (more ++ some) p k ∙ stays q n k)

  -- the second class moved to the first
  pub second_moved : Relabels reps new more one → Puts m2 m3 one (some ++ more) → AreClassesOf (es ++ (a, b) ∷ []) (representative new) (members m3)
  second_moved r p = classes_joined es (a, b) b a other one (representative reps) (representative new) (members m0) (members m3) old (inr refl) other_is one_is (λ e. differ (sym e))
      (λ q c. r.moved q (subst (λ xs. Contains xs q) (sym more_was) c)) (λ q n. r.kept q (λ c. n (subst (λ xs. Contains xs q) more_was c)))
      (put_at m2 m3 one (some ++ more) p ∙ ap (λ xs. xs ++ more) some_is ∙ ap (λ xs. members m0 one ++ xs) more_was)
      (put_elsewhere m2 m3 one other (some ++ more) p differ ∙ other_gone)
      (λ q k n. put_elsewhere m2 m3 one q (some ++ more) p k ∙ stays q k n)

-- two bindings of one class
pub same_class : (es : Equalities) (a b : BindingId) (rep : BindingId → BindingId) (mem : BindingId → List BindingId) → rep a ≡ rep b → AreClassesOf es rep mem → AreClassesOf (es ++ (a, b) ∷ []) rep mem
same_class es a b rep mem same old = record {
  joined = λ q. joined_kept es (a, b) q (rep q) (old.joined q);
  one = λ z c. ⊎_elim (λ d. old.one z d) (λ (k : (a, b) ≡ z). subst (λ (p : BindingId × BindingId). rep p.0 ≡ rep p.1) k same) (Contains-push_cases es (a, b) z c);
  each = old.each;
  only = old.only;
}
