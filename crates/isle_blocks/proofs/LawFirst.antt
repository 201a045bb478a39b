-- The first rule that holds, of rules in falling order, is the highest that holds of them in any order, if no two of one priority hold.
use Rattle.std.proofs.Common.{◌≡◌, ⊎_elim, List, [], ◌∷◌, Bool, true, false, cond, Option, Some, None, refl, sym, ap, ◌∙◌, subst, arith}
use Rattle.std.specs.Prelude.{Contains, ℤ}
use Rattle.std.specs.Ordering.{int_cmp, is_lt}
use Rattle.isle_core.specs.declared.rule_sets.FlatRule.{FlatRule}
use Rattle.isle_core.specs.RuleSet.{higher, highest}
use Rattle.isle_core.proofs.Contained.{head_contained, tail_contained, contained_cases, none_contained}
use Rattle.isle_blocks.specs.Order.{is_above, NoneAbove, Falls}
use Rattle.isle_blocks.specs.Reordered.{IsReordered}
use Rattle.isle_blocks.proofs.LawOrder.{above_order}
use Rattle.isle_blocks.proofs.Reorders.{reorder_has, reorder_keeps}

-- the first rule that holds
abbrev pub first : (FlatRule → Bool) → List FlatRule → Option FlatRule
first ok [] = None
first ok (f ∷ fs) = cond (ok f) (Some f) (first ok fs)

-- ---- what the highest is

-- it is one of them and holds, and none that holds is above it
record IsHighest (ok : FlatRule → Bool) (fs : List FlatRule) (f : FlatRule) : Type 0 where
  there : Contains fs f
  holds : ok f ≡ true
  above : (g : FlatRule) → Contains fs g → ok g ≡ true → is_above g f ≡ false

-- if there is none, none holds
abbrev IsTop : (FlatRule → Bool) → List FlatRule → Option FlatRule → Type 0
IsTop ok fs None = (g : FlatRule) → Contains fs g → ok g ≡ true → ⊥
IsTop ok fs (Some f) = IsHighest ok fs f

not_above_self : (f : FlatRule) → is_above f f ≡ false
not_above_self f = pick (is_above f f) refl
  where
    pick : (b : Bool) → is_above f f ≡ b → is_above f f ≡ false
    pick false e = e
    pick true e = above_order.one_way f f e

first_top : (ok : FlatRule → Bool) (fs : List FlatRule) → Falls fs → IsTop ok fs (first ok fs)
first_top ok [] h = λ g c e. none_contained g c
first_top ok (f ∷ fs) h = pick (ok f) refl (first_top ok fs h.1)
  where
    none_above : (gs : List FlatRule) → NoneAbove f gs → (g : FlatRule) → Contains gs g → is_above g f ≡ false
    none_above [] k g c = absurd (none_contained g c)
    none_above (x ∷ gs) k g c = ⊎_elim (λ (e : x ≡ g). subst (λ y. is_above y f ≡ false) e k.0) (λ j. none_above gs k.1 g j) (contained_cases x gs g c)

    later : (o : Option FlatRule) → ok f ≡ false → IsTop ok fs o → IsTop ok (f ∷ fs) o
    later None e k = λ g c holds. ⊎_elim (λ (s : f ≡ g). let no = sym e ∙ ap ok s ∙ holds in cc) (λ j. k g j holds) (contained_cases f fs g c)
    later (Some x) e k = record {
      there = tail_contained f fs x k.there;
      holds = k.holds;
      above = λ g c holds. ⊎_elim (λ (s : f ≡ g). let no = sym e ∙ ap ok s ∙ holds in absurd cc) (λ j. k.above g j holds) (contained_cases f fs g c);
    }

    pick : (b : Bool) → ok f ≡ b → IsTop ok fs (first ok fs) → IsTop ok (f ∷ fs) (cond b (Some f) (first ok fs))
    pick true e k = record {
      there = head_contained f fs;
      holds = e;
      above = λ g c holds. ⊎_elim (λ (s : f ≡ g). subst (λ y. is_above y f ≡ false) s (not_above_self f)) (λ j. none_above fs h.0 g j) (contained_cases f fs g c);
    }
    pick false e k = later (first ok fs) e k

highest_top : (ok : FlatRule → Bool) (fs : List FlatRule) → IsTop ok fs (highest ok fs)
highest_top ok [] = λ g c e. none_contained g c
highest_top ok (f ∷ fs) = pick (ok f) refl (highest ok fs) (highest_top ok fs)
  where
    pick_higher : (b : Bool) (x : FlatRule) → ok f ≡ true → is_above x f ≡ b → IsHighest ok fs x → IsHighest ok (f ∷ fs) (cond b x f)
    pick_higher true x e above k = record {
      there = tail_contained f fs x k.there;
      holds = k.holds;
      above = λ g c holds. ⊎_elim (λ (s : f ≡ g). subst (λ y. is_above y x ≡ false) s (above_order.one_way x f above)) (λ j. k.above g j holds) (contained_cases f fs g c);
    }
    pick_higher false x e above k = record {
      there = head_contained f fs;
      holds = e;
      above = λ g c holds. ⊎_elim (λ (s : f ≡ g). subst (λ y. is_above y f ≡ false) s (not_above_self f)) (λ j. above_order.chain g x f (k.above g j holds) above) (contained_cases f fs g c);
    }

    with_first : (o : Option FlatRule) → ok f ≡ true → IsTop ok fs o → IsHighest ok (f ∷ fs) (higher f o)
    with_first None e k = record {
      there = head_contained f fs;
      holds = e;
      above = λ g c holds. ⊎_elim (λ (s : f ≡ g). subst (λ y. is_above y f ≡ false) s (not_above_self f)) (λ j. absurd (k g j holds)) (contained_cases f fs g c);
    }
    with_first (Some x) e k = pick_higher (is_above x f) x e refl k

    later : (o : Option FlatRule) → ok f ≡ false → IsTop ok fs o → IsTop ok (f ∷ fs) o
    later None e k = λ g c holds. ⊎_elim (λ (s : f ≡ g). let no = sym e ∙ ap ok s ∙ holds in cc) (λ j. k g j holds) (contained_cases f fs g c)
    later (Some x) e k = record {
      there = tail_contained f fs x k.there;
      holds = k.holds;
      above = λ g c holds. ⊎_elim (λ (s : f ≡ g). let no = sym e ∙ ap ok s ∙ holds in absurd cc) (λ j. k.above g j holds) (contained_cases f fs g c);
    }

    pick : (b : Bool) → ok f ≡ b → (o : Option FlatRule) → IsTop ok fs o → IsTop ok (f ∷ fs) (cond b (Some (higher f o)) o)
    pick true e o k = with_first o e k
    pick false e o k = later o e k

-- ---- the two are one

same_priority : (x y : ℤ) → is_lt (int_cmp x y) ≡ false → is_lt (int_cmp y x) ≡ false → x ≡ y
same_priority x y a b = grind (arith, a, b)

pub first_is_highest : (ok : FlatRule → Bool) (fs gs : List FlatRule) → IsReordered fs gs → Falls gs → ((f g : FlatRule) → Contains fs f → Contains fs g → ok f ≡ true → ok g ≡ true → f.prio ≡ g.prio → f ≡ g)
    → first ok gs ≡ highest ok fs
first_is_highest ok fs gs order falls apart = pick (first ok gs) (highest ok fs) (first_top ok gs falls) (highest_top ok fs)
  where
    pick : (o o' : Option FlatRule) → IsTop ok gs o → IsTop ok fs o' → o ≡ o'
    pick None None h k = refl
    pick None (Some g) h k = absurd (h g (reorder_keeps fs gs g order k.there) k.holds)
    pick (Some f) None h k = absurd (k f (reorder_has fs gs f order h.there) h.holds)
    pick (Some f) (Some g) h k =
        let there = reorder_has fs gs f order h.there in
        ap Some (apart f g there k.there h.holds k.holds (same_priority f.prio g.prio (h.above g (reorder_keeps fs gs g order k.there) k.holds) (k.above f there h.holds)))
