-- What was found in the lists of a group was found in the group.
use Rattle.std.proofs.Common.{◌≡◌, ◌⊎◌, inl, inr, ⊎_elim, ℕ, List, [], ◌∷◌, length, refl, sym, ap, ◌∙◌, subst, arith, Option, Some, None, Ordering}
use Rattle.std.specs.Prelude.{Contains}
use Rattle.std.specs.BTreeMap.{values, IsOrdered}
use Rattle.std.specs.declared.cmp.Ordering.TheVariants.{Less, Equal, Greater}
use Rattle.isle_core.specs.declared.BindingId.{BindingId}
use Rattle.isle_core.specs.declared.rule_sets.Constraint.{Constraint}
use Rattle.isle_core.specs.declared.rule_sets.FlatRule.{FlatRule}
use Rattle.isle_core.proofs.Contained.{head_contained, tail_contained, contained_cases, none_contained}
use Rattle.isle_checks.specs.declared.lists.Key.{Key}
use Rattle.isle_checks.specs.declared.lists.Key.TheVariants as key
use Rattle.isle_checks.specs.declared.lists.Lists.{Lists}
use Rattle.isle_checks.specs.declared.placed.Check.TheVariants as check
use Rattle.isle_checks.specs.declared.placed.Placed.{Placed}
use Rattle.isle_checks.specs.declared.splitter.Splitter.{Splitter}
use Rattle.isle_checks.specs.declared.splitter.Splitter.TheVariants as splitter
use Rattle.isle_checks.specs.Bears.{Agree, IsAmong}
use Rattle.isle_checks.specs.Firsts.{Found, Has, HasUpTo, IsMade, Finds}
use Rattle.isle_checks.specs.Lists.{Rises, key_cmp, under_key, listing, MayHave, AreLists}
use Rattle.isle_checks.specs.Makes.{Makes, Overlap}
use Rattle.isle_checks.specs.Splitter.{HasKey}
use Rattle.isle_checks.proofs.BearLaws.{other_among, agree_at}
use Rattle.isle_checks.proofs.FindLaws.{Within, made_among, up_to_then}
use Rattle.isle_checks.proofs.ListLaws.{same_under, same_key, key_of, held}

-- ---- rules that overlap have one key

-- what can't differ compares as equal
alike : (k q : Key) → ((k ≡ q → ⊥) → ⊥) → key_cmp k q ≡ Equal
alike k q never = by (key_cmp k q) refl
  where
    apart : (o : Ordering) → key_cmp k q ≡ o → (o ≡ Equal → ⊥) → key_cmp k q ≡ Equal
    apart o e n = absurd (never (λ same. n (sym e ∙ same_key k q same)))

    by : (o : Ordering) → key_cmp k q ≡ o → key_cmp k q ≡ Equal
    by Less e = apart Less e (λ f. cc)
    by Equal e = e
    by Greater e = apart Greater e (λ f. cc)

same_constraint : (f g : FlatRule) (b x : BindingId) (c d : Constraint) → Agree f.constraints g.constraints → IsAmong f.constraints (b, c) → IsAmong g.constraints (x, d) → b ≡ x → (key.Constraint b c ≡ key.Constraint x d → ⊥) → ⊥
same_constraint f g b x c d agree h k same n = agree_at f.constraints g.constraints (b, c) agree h
    (other_among g.constraints b c d (subst (λ y. IsAmong g.constraints (y, d)) (sym same) k) (λ e. n (ap (λ y. key.Constraint y c) same ∙ ap (key.Constraint x) (sym e))))

one_key : (s : Splitter) (f g : FlatRule) (i j : ℕ) (k q : Key) → HasKey s f k → HasKey s g q → Overlap i f j g → key_cmp k q ≡ Equal
one_key splitter.Priority f g i j (key.Priority p) (key.Priority r) h k m = same_key (key.Priority p) (key.Priority r) (ap key.Priority (sym h ∙ m.prio ∙ k))
one_key splitter.Priority f g i j (key.Priority p) (key.Constraint b c) h k m = absurd k
one_key splitter.Priority f g i j (key.Constraint b c) q h k m = absurd h
one_key (splitter.Binding x) f g i j (key.Priority p) q h k m = absurd h
one_key (splitter.Binding x) f g i j (key.Constraint b c) (key.Priority p) h k m = absurd k
one_key (splitter.Binding x) f g i j (key.Constraint b c) (key.Constraint a d) h k m = alike (key.Constraint b c) (key.Constraint a d) (same_constraint f g b a c d m.agree h.1 k.1 (h.0 ∙ sym k.0))

-- ---- one list after another

-- what is made within a list was found
abbrev pub FindsIn : Found → List Placed → Type 0
FindsIn new list = (a b : Placed) → Contains list a → Contains list b → Makes check.Overlaps a b → HasUpTo new b.place a.place

-- what is made within each list that is not left was found
pub record FindsPast (group : List Placed) (lists left : List (List Placed)) (old new : Found) : Type 0 where
  pub long : length new ≡ length old
  pub sound : (j i : ℕ) → Has new j i → Has old j i ⊎ IsMade check.Overlaps group group i j
  pub kept : (j i : ℕ) → Has old j i → HasUpTo new j i
  pub there : (list : List Placed) → Contains left list → Contains lists list
  pub complete : (list : List Placed) → Contains lists list → Contains left list ⊎ FindsIn new list

pub none_past : (group : List Placed) (lists left : List (List Placed)) (found : Found) → left ≡ lists → FindsPast group lists left found found
none_past group lists left found e = record { long = refl; sound = λ j i h. inl h; kept = λ j i h. record { k = i; le = omega arith; has = h }; there = λ list c. subst (λ xs. Contains xs list) e c; complete = λ list c. inl (subst (λ xs. Contains xs list) (sym e) c) }

pub past_more : (group : List Placed) (lists left later : List (List Placed)) (list : List Placed) (old mid new : Found) → left ≡ list ∷ later → Within list group → Finds check.Overlaps list list mid new → FindsPast group lists left old mid → FindsPast group lists later old new
past_more group lists left later list old mid new is within f h = record {
  long = f.long ∙ h.long;
  sound = λ j i has. ⊎_elim (λ d. h.sound j i d) (λ d. inr (made_among check.Overlaps list group list group i j within within d)) (f.sound j i has);
  kept = λ j i has. up_to_then mid new f.kept j i (h.kept j i has);
  there = λ one c. h.there one (subst (λ xs. Contains xs one) (sym is) (tail_contained list later one c));
  complete = λ one c. ⊎_elim
      (λ d. ⊎_elim (λ (e : list ≡ one). inr (subst (FindsIn new) e (λ a b k l m. f.complete a b k l m))) (λ k. inl k) (contained_cases list later one (subst (λ xs. Contains xs one) is d)))
      (λ k. inr (λ a b d e m. up_to_then mid new f.kept b.place a.place (k a b d e m)))
      (h.complete one c);
}

-- a list of a group's rules
pub listed_within : (Have : FlatRule → Key → Type 0) (group : List Placed) (lists : Lists) (list : List Placed) → AreLists Have group (listing lists) → IsOrdered key_cmp lists.under → Contains (values lists.under) list → Within list group
listed_within Have group lists list h ordered c a d = let k = key_of lists.under list ordered c in h.from (Some k.key) a (subst (λ xs. Contains xs a) (sym k.is) d)

pub listed_rises : (Have : FlatRule → Key → Type 0) (group : List Placed) (lists : Lists) (list : List Placed) → AreLists Have group (listing lists) → IsOrdered key_cmp lists.under → Contains (values lists.under) list → Rises list
listed_rises Have group lists list h ordered c = let k = key_of lists.under list ordered c in subst Rises k.is (h.rise (Some k.key))

-- a list that is left is one of the lists
pub left_there : (group : List Placed) (lists left later under : List (List Placed)) (list : List Placed) (old new : Found) → left ≡ list ∷ later → lists ≡ under → FindsPast group lists left old new → Contains under list
left_there group lists left later under list old new is all h = subst (λ xs. Contains xs list) all (h.there list (subst (λ xs. Contains xs list) (sym is) (head_contained list later)))

-- all lists were looked at
pub all_past : (group : List Placed) (lists left under : List (List Placed)) (old new : Found) → left ≡ [] → lists ≡ under → FindsPast group lists left old new → FindsPast group under [] old new
all_past group lists left under old new none all h = subst (λ xs. FindsPast group xs [] old new) all (subst (λ xs. FindsPast group lists xs old new) none h)

-- the rules under no key
pub rest_within : (Have : FlatRule → Key → Type 0) (group : List Placed) (lists : Lists) → AreLists Have group (listing lists) → Within lists.rest group
rest_within Have group lists h a c = h.from None a c

pub rest_rises : (Have : FlatRule → Key → Type 0) (group : List Placed) (lists : Lists) → AreLists Have group (listing lists) → Rises lists.rest
rest_rises Have group lists h = h.rise None

-- ---- the whole group

module _ (s : Splitter) (group : List Placed) (lists : Lists) (h : AreLists (HasKey s) group (listing lists)) (f0 f1 f2 f3 : Found) (f : FindsPast group (values lists.under) [] f0 f1) (g : Finds check.Overlaps lists.rest group f1 f2) (e : Finds check.Overlaps group lists.rest f2 f3) where
  rest_in : Within lists.rest group
  rest_in = rest_within (HasKey s) group lists h

  from_first : (j i : ℕ) → HasUpTo f1 j i → HasUpTo f3 j i
  from_first j i u = up_to_then f2 f3 e.kept j i (up_to_then f1 f2 g.kept j i u)

  in_one : (k : Key) (a b : Placed) → Contains (under_key lists.under k) a → Contains (under_key lists.under k) b → Makes check.Overlaps a b → HasUpTo f3 b.place a.place
  in_one k a b c d m =
      let l = held lists.under k a c in
      ⊎_elim (λ n. absurd (none_contained l.list n)) (λ made. from_first b.place a.place (made a b (subst (λ xs. Contains xs a) l.is c) (subst (λ xs. Contains xs b) l.is d) m)) (f.complete l.list l.there)

  by_keys : (a b : Placed) (k q : Option Key) → MayHave (HasKey s) a.rule.now k → MayHave (HasKey s) b.rule.now q → Contains (listing lists k) a → Contains (listing lists q) b → Contains group a → Contains group b → Makes check.Overlaps a b → HasUpTo f3 b.place a.place
  by_keys a b None q x y c d u v m = up_to_then f2 f3 e.kept b.place a.place (g.complete a b c v m)
  by_keys a b (Some k) None x y c d u v m = e.complete a b u d m
  by_keys a b (Some k) (Some q) x y c d u v m = in_one k a b c (subst (λ xs. Contains xs b) (sym (same_under lists.under k q (one_key s a.rule.now b.rule.now a.place b.place k q x y m))) d) m

  pub found_within : Finds check.Overlaps group group f0 f3
  found_within = record {
    long = e.long ∙ g.long ∙ f.long;
    sound = λ j i has. ⊎_elim
        (λ k. ⊎_elim (λ l. f.sound j i l) (λ d. inr (made_among check.Overlaps lists.rest group group group i j rest_in (λ a c. c) d)) (g.sound j i k))
        (λ d. inr (made_among check.Overlaps group group lists.rest group i j (λ a c. c) rest_in d))
        (e.sound j i has);
    kept = λ j i has. from_first j i (f.kept j i has);
    complete = λ a b c d m. let x = h.all a c in let y = h.all b d in by_keys a b x.key y.key x.has y.has x.among y.among c d m;
  }
