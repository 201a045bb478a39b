-- Different constraints on one class make a rule unreachable.
use Rattle.std.proofs.Common.{◌≡◌, inl, inr, ⊎_elim, ℕ, ◌+◌, ◌<◌, List, [], ◌∷◌, ◌++◌, length, get_or, take, drop, Bool, true, false, Option, Some, None, refl, sym, ap, ◌∙◌, subst, arith}
use Rattle.std.specs.Prelude.{◌↔◌, IsTrue, IfSome, Contains}
use Rattle.std.specs.BTreeMap.{BTreeMap, get, Updates}
use Rattle.std.proofs.lemmas.List.{take_more, take-append-drop, get_or_default}
use Rattle.std.proofs.lemmas.List.Elements.{Contains-append_left, Contains-push, Contains-push_cases}
use Rattle.isle_core.specs.declared.BindingId.{BindingId}
use Rattle.isle_core.specs.declared.rule_sets.Constraint.{Constraint}
use Rattle.isle_core.specs.declared.rule_sets.FlatRule.{FlatRule}
use Rattle.isle_core.proofs.Contained.{head_contained, tail_contained, contained_cases, none_contained}
use Rattle.isle_core.proofs.OptionLaws.{some_same}
use Rattle.isle_checks.specs.declared.classes.Classes.{Classes}
use Rattle.isle_checks.specs.Bears.{Constraints, IsAmong}
use Rattle.isle_checks.specs.Joined.{Equalities, IsWay, AreJoined, IsUnreachable}
use Rattle.isle_checks.specs.Classes.{binding_cmp, representative, members, AreClassesOf, AreClasses, HaveClash}
use Rattle.isle_checks.specs.Errors.{AreUnreachable}
use Rattle.isle_checks.proofs.JoinedLaws.{then_joined, joined_back}
use Rattle.isle_checks.proofs.ClassLaws.{same_or_not, apart}

-- ---- constraints that were seen

-- a constraint on a class, and where it stands
pub record IsNoted (rep : BindingId → BindingId) (front : Constraints) (r : BindingId) (c : Constraint) : Type 0 where
  pub item : BindingId × Constraint
  pub among : Contains front item
  pub of : rep item.0 ≡ r
  pub is : item.1 ≡ c

-- each was noted on its class, and nothing else was
pub record AreSeen (rep : BindingId → BindingId) (front : Constraints) (seen : BTreeMap BindingId Constraint) : Type 0 where
  pub each : (x : BindingId × Constraint) → Contains front x → get binding_cmp seen (rep x.0) ≡ Some x.1
  pub only : (r : BindingId) (c : Constraint) → get binding_cmp seen r ≡ Some c → IsNoted rep front r c

noted_kept : (rep : BindingId → BindingId) (front : Constraints) (x : BindingId × Constraint) (r : BindingId) (c : Constraint) → IsNoted rep front r c → IsNoted rep (front ++ x ∷ []) r c
noted_kept rep front x r c h = record { item = h.item; among = Contains-append_left front (x ∷ []) h.item h.among; of = h.of; is = h.is }

agreed : (o : Option Constraint) (c d : Constraint) → o ≡ Some d → IfSome o (λ k. k ≡ c) → d ≡ c
agreed None c d e h = cc
agreed (Some k) c d e h = sym (some_same k d e) ∙ h

module _ (rep : BindingId → BindingId) (xs : Constraints) (i : ℕ) (x : BindingId × Constraint) (lt : i < length xs) (is : x ≡ get_or xs i x) where
  more : take (i + 1) xs ≡ take i xs ++ x ∷ []
  more = take_more xs i x lt ∙ ap (λ y. take i xs ++ y ∷ []) (sym is)

  -- one more, which agrees with what was noted
  pub seen_more : (old new : BTreeMap BindingId Constraint) → IfSome (get binding_cmp old (rep x.0)) (λ c. c ≡ x.1) → Updates binding_cmp old new (rep x.0) (Some x.1) → AreSeen rep (take i xs) old → AreSeen rep (take (i + 1) xs) new
  seen_more old new agrees u h = subst (λ front. AreSeen rep front new) (sym more) (record { each = each; only = only })
    where
      here : (r : BindingId) → rep x.0 ≡ r → get binding_cmp new r ≡ Some x.1
      here r e = subst (λ q. get binding_cmp new q ≡ Some x.1) e u.1

      elsewhere : (r : BindingId) → (rep x.0 ≡ r → ⊥) → get binding_cmp new r ≡ get binding_cmp old r
      elsewhere r n = u.2 r (apart (rep x.0) r n)

      each : (y : BindingId × Constraint) → Contains (take i xs ++ x ∷ []) y → get binding_cmp new (rep y.0) ≡ Some y.1
      each y c = ⊎_elim
          (λ d. ⊎_elim
          (λ (e : rep x.0 ≡ rep y.0). here (rep y.0) e ∙ ap Some (sym (agreed (get binding_cmp old (rep x.0)) x.1 y.1 (ap (get binding_cmp old) e ∙ h.each y d) agrees)))
          (λ n. elsewhere (rep y.0) n ∙ h.each y d)
          (same_or_not (rep x.0) (rep y.0)))
          (λ (e : x ≡ y). subst (λ (z : BindingId × Constraint). get binding_cmp new (rep z.0) ≡ Some z.1) e u.1)
          (Contains-push_cases (take i xs) x y c)

      only : (r : BindingId) (c : Constraint) → get binding_cmp new r ≡ Some c → IsNoted rep (take i xs ++ x ∷ []) r c
      only r c k = ⊎_elim
          (λ (e : rep x.0 ≡ r). record { item = x; among = Contains-push (take i xs) x; of = e; is = some_same x.1 c (sym (here r e) ∙ k) })
          (λ n. noted_kept rep (take i xs) x r c (h.only r c (sym (elsewhere r n) ∙ k)))
          (same_or_not (rep x.0) r)

  -- one that differs from what was noted
  pub clash_found : (old : BTreeMap BindingId Constraint) → (IfSome (get binding_cmp old (rep x.0)) (λ c. c ≡ x.1) → ⊥) → AreSeen rep (take i xs) old → HaveClash rep xs
  clash_found old n h = by (get binding_cmp old (rep x.0)) refl n
    where
      by : (o : Option Constraint) → get binding_cmp old (rep x.0) ≡ o → (IfSome o (λ c. c ≡ x.1) → ⊥) → HaveClash rep xs
      by None e k = absurd (k tt)
      by (Some c) e k =
          let before = h.only (rep x.0) c e in
          record {
            one = before.item;
            other = x;
            among = subst (λ ys. Contains ys before.item) (take-append-drop i xs) (Contains-append_left (take i xs) (drop i xs) before.item before.among);
            also_among = (i, lt, sym is);
            together = before.of;
            differ = λ s. k (sym before.is ∙ s);
          }

-- the next item, whose class was looked up
module _ (rep : BindingId → BindingId) (xs : Constraints) (i : ℕ) (d : BindingId × Constraint) (class : BindingId) (old new : BTreeMap BindingId Constraint) (agrees : Bool) (lt : i < length xs) (of : class ≡ rep (get_or xs i d).0)
    (told : IsTrue agrees ↔ IfSome (get binding_cmp old class) (λ c. c ≡ (get_or xs i d).1)) (h : AreSeen rep (take i xs) old) where
  told_of : IsTrue agrees ↔ IfSome (get binding_cmp old (rep (get_or xs i d).0)) (λ c. c ≡ (get_or xs i d).1)
  told_of = subst (λ r. IsTrue agrees ↔ IfSome (get binding_cmp old r) (λ c. c ≡ (get_or xs i d).1)) of told

  itself : get_or xs i d ≡ get_or xs i (get_or xs i d)
  itself = get_or_default xs i d (get_or xs i d) lt

  pub next_seen : agrees ≡ true → Updates binding_cmp old new class (Some (get_or xs i d).1) → AreSeen rep (take (i + 1) xs) new
  next_seen e u = seen_more rep xs i (get_or xs i d) lt itself old new (told_of.0 e) (subst (λ r. Updates binding_cmp old new r (Some (get_or xs i d).1)) of u) h

  pub next_clash : agrees ≡ false → HaveClash rep xs
  next_clash e = clash_found rep xs i (get_or xs i d) lt itself old (λ k. true_false (sym (told_of.1 k) ∙ e)) h
    where
      true_false : true ≡ false → ⊥
      true_false f = cc

-- where all were noted none differ
pub no_clash : (rep : BindingId → BindingId) (xs : Constraints) (seen : BTreeMap BindingId Constraint) → AreSeen rep xs seen → HaveClash rep xs → ⊥
no_clash rep xs seen h k = k.differ (some_same k.one.1 k.other.1 (sym (h.each k.one k.among) ∙ ap (get binding_cmp seen) k.together ∙ h.each k.other k.also_among))

-- ---- of a flat rule

among_of : (xs : Constraints) (x : BindingId × Constraint) → Contains xs x → IsAmong xs x
among_of [] x c = absurd (none_contained x c)
among_of (y ∷ ys) x c = ⊎_elim (λ (e : y ≡ x). inl e) (λ d. inr (among_of ys x d)) (contained_cases y ys x c)

contained_of : (xs : Constraints) (x : BindingId × Constraint) → IsAmong xs x → Contains xs x
contained_of [] x c = absurd c
contained_of (y ∷ ys) x c = ⊎_elim (λ (e : y ≡ x). subst (Contains (y ∷ ys)) e (head_contained y ys)) (λ d. tail_contained y ys x (contained_of ys x d)) c

-- bindings that a chain joins have one representative
one_class : (es : Equalities) (rep : BindingId → BindingId) (mem : BindingId → List BindingId) (a : BindingId) (between : List BindingId) (b : BindingId) → AreClassesOf es rep mem → IsWay es a between b → rep a ≡ rep b
one_class es rep mem a [] b h w = ap rep w
one_class es rep mem a (x ∷ between) b h w = ⊎_elim (λ d. h.one (a, x) d) (λ d. sym (h.one (x, a) d)) w.0 ∙ one_class es rep mem x between b h w.1

pub clash_is : (f : FlatRule) (classes : Classes) → AreClasses f.equals classes → HaveClash (representative classes.representatives) f.constraints ↔ IsUnreachable f
clash_is f classes h = (
  λ k. record {
    from = k.one.0;
    one = k.one.1;
    to = k.other.0;
    other = k.other.1;
    among = among_of f.constraints k.one k.among;
    also_among = among_of f.constraints k.other k.also_among;
    differ = k.differ;
    joined = then_joined f.equals k.one.0 (rep k.one.0) k.other.0 (h.joined k.one.0) (subst (λ r. AreJoined f.equals r k.other.0) (sym k.together) (joined_back f.equals k.other.0 (rep k.other.0) (h.joined k.other.0)));
  },
  λ k. record {
    one = (k.from, k.one);
    other = (k.to, k.other);
    among = contained_of f.constraints (k.from, k.one) k.among;
    also_among = contained_of f.constraints (k.to, k.other) k.also_among;
    together = one_class f.equals rep (members classes.members) k.from k.joined.between k.to h k.joined.way;
    differ = k.differ;
  },
)
  where
    rep : BindingId → BindingId
    rep = representative classes.representatives

-- one constraint differs from no other
few : (xs : Constraints) (x y : BindingId × Constraint) → length xs < 2 → IsAmong xs x → IsAmong xs y → x ≡ y
few [] x y lt h k = absurd h
few (z ∷ []) x y lt h k = ⊎_elim (λ (d : z ≡ x). ⊎_elim (λ (e : z ≡ y). sym d ∙ e) (λ e. absurd e) k) (λ d. absurd d) h
few (z ∷ w ∷ zs) x y lt h k = absurd (omega (arith, lt))

pub few_constraints : (f : FlatRule) → length f.constraints < 2 → IsUnreachable f → ⊥
few_constraints f lt h = h.differ (ap (λ (x : BindingId × Constraint). x.1) (few f.constraints (h.from, h.one) (h.to, h.other) lt h.among h.also_among))

-- ---- of flat rules

unreachable_push : (fs : List FlatRule) (us : List Bool) (f : FlatRule) (u : Bool) → AreUnreachable fs us → IsTrue u ↔ IsUnreachable f → AreUnreachable (fs ++ f ∷ []) (us ++ u ∷ [])
unreachable_push [] [] f u h k = (k, tt)
unreachable_push (g ∷ fs) (v ∷ us) f u h k = (h.0, unreachable_push fs us f u h.1 k)
unreachable_push [] (v ∷ us) f u h k = absurd h
unreachable_push (g ∷ fs) [] f u h k = absurd h

-- one rule more was told
pub unreachable_more : (fs : List FlatRule) (i : ℕ) (f : FlatRule) (u : Bool) (old new : List Bool) → i < length fs → f ≡ get_or fs i f → IsTrue u ↔ IsUnreachable f → new ≡ old ++ u ∷ [] → AreUnreachable (take i fs) old → AreUnreachable (take (i + 1) fs) new
unreachable_more fs i f u old new lt is k more h =
    let front : take (i + 1) fs ≡ take i fs ++ f ∷ [] = take_more fs i f lt ∙ ap (λ x. take i fs ++ x ∷ []) (sym is) in
    subst (λ xs. AreUnreachable xs new) (sym front) (subst (AreUnreachable (take i fs ++ f ∷ [])) (sym more) (unreachable_push (take i fs) old f u h k))
