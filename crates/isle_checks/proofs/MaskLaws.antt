-- Which rules shadow others.
use Rattle.std.proofs.Common.{◌≡◌, ◌⊎◌, inl, inr, ⊎_elim, ℕ, ℤ, zero, suc, ◌+◌, ◌<◌, List, [], ◌∷◌, ◌++◌, length, get_or, take, drop, refl, sym, ap, ◌∙◌, subst, arith, Option, Some, None}
use Rattle.std.specs.Prelude.{◌<ℤ◌, IfSome, Contains}
use Rattle.std.specs.Int.Signed.{<ℤ_irrefl}
use Rattle.std.proofs.lemmas.List.{take_more, drop_more}
use Rattle.std.proofs.lemmas.List.Elements.{Contains-append_left, Contains-append_right, Contains-append_cases}
use Rattle.isle_core.specs.declared.BindingId.{BindingId}
use Rattle.isle_core.specs.declared.rule_sets.Constraint.{Constraint}
use Rattle.isle_core.proofs.Contained.{contained_cases, none_contained}
use Rattle.isle_checks.specs.declared.lists.Key.{Key}
use Rattle.isle_checks.specs.declared.lists.Key.TheVariants as key
use Rattle.isle_checks.specs.declared.placed.Check.TheVariants as check
use Rattle.isle_checks.specs.declared.placed.Placed.{Placed}
use Rattle.isle_checks.specs.Bears.{Constraints, IsAmong, AreAmong}
use Rattle.isle_checks.specs.Firsts.{Found, Finds}
use Rattle.isle_checks.specs.Lists.{Rises, Listing, MayHave, AreLists}
use Rattle.isle_checks.specs.Makes.{Makes}
use Rattle.isle_checks.specs.Priorities.{HavePriority, HaveOnePriority}
use Rattle.isle_checks.specs.Masks.{ArePlain, Bears, BearsKey, MayJoin, under_each, candidates}
use Rattle.isle_checks.proofs.BearLaws.{among_at}
use Rattle.isle_checks.proofs.FindLaws.{find_makers, find_enlarged, nobody_found}
use Rattle.isle_checks.proofs.ListLaws.{before_place}
use Rattle.isle_checks.proofs.PlacedLaws.{only_one, rises_push}

-- ---- rules of one priority

priority_of : (prio : ℤ) (xs : List Placed) → HavePriority prio xs → (a : Placed) → Contains xs a → a.rule.now.prio ≡ prio
priority_of prio [] h a c = absurd (none_contained a c)
priority_of prio (x ∷ xs) h a c = ⊎_elim (λ (e : x ≡ a). subst (λ (y : Placed). y.rule.now.prio ≡ prio) e h.0) (λ d. priority_of prio xs h.1 a d) (contained_cases x xs a c)

same_priority : (group : List Placed) → HaveOnePriority group → (a b : Placed) → Contains group a → Contains group b → a.rule.now.prio ≡ b.rule.now.prio
same_priority [] h a b c d = absurd (none_contained a c)
same_priority (x ∷ xs) h a b c d = priority_of x.rule.now.prio (x ∷ xs) h a c ∙ sym (priority_of x.rule.now.prio (x ∷ xs) h b d)

not_higher : (p q : ℤ) → p ≡ q → q <ℤ p → ⊥
not_higher p q e lt = <ℤ_irrefl (subst (λ r. q <ℤ r) e lt)

-- rules of one priority don't shadow each other
pub one_priority_found : (group : List Placed) (found : Found) → HaveOnePriority group → Finds check.Shadows group group found found
one_priority_found group found h = record { long = refl; sound = λ j i has. inl has; kept = λ j i has. record { k = i; le = omega arith; has = has }; complete = λ a b c d m. absurd (not_higher a.rule.now.prio b.rule.now.prio (same_priority group h a b c d) m.higher) }

-- ---- rules without equalities

join_more : (front plain new : List Placed) (b : Placed) → ((a : Placed) → Contains front a → a.place < b.place) → MayJoin b plain new → ArePlain front plain → ArePlain (front ++ b ∷ []) new
join_more front plain new b lt (inl e) h = subst (ArePlain (front ++ b ∷ [])) (sym e) (record {
  from = λ a c. ⊎_elim (λ d. Contains-append_left front (b ∷ []) a (h.from a d)) (λ d. Contains-append_right front (b ∷ []) a d) (Contains-append_cases plain (b ∷ []) a c);
  all = λ a c none. ⊎_elim (λ d. Contains-append_left plain (b ∷ []) a (h.all a d none)) (λ d. Contains-append_right plain (b ∷ []) a d) (Contains-append_cases front (b ∷ []) a c);
  rise = rises_push plain b h.rise (λ a c. lt a (h.from a c));
})
join_more front plain new b lt (inr e) h = subst (ArePlain (front ++ b ∷ [])) (sym e.1) (record {
  from = λ a c. Contains-append_left front (b ∷ []) a (h.from a c);
  all = λ a c none. ⊎_elim (λ d. h.all a d none) (λ d. absurd (e.0 (subst (λ (x : Placed). x.rule.now.equals ≡ []) (sym (only_one b a d)) none))) (Contains-append_cases front (b ∷ []) a c);
  rise = h.rise;
})

-- one rule more
pub plain_more : (group : List Placed) (i : ℕ) (b : Placed) (plain new : List Placed) → Rises group → i < length group → b ≡ get_or group i b → MayJoin b plain new → ArePlain (take i group) plain → ArePlain (take (i + 1) group) new
plain_more group i b plain new rise lt is joins h =
    let more : take (i + 1) group ≡ take i group ++ b ∷ [] = take_more group i b lt ∙ ap (λ x. take i group ++ x ∷ []) (sym is) in
    subst (λ front. ArePlain front new) (sym more) (join_more (take i group) plain new b (before_place group i b rise lt is) joins h)

-- ---- the rarest constraint

among_there : (xs : Constraints) (i : ℕ) (d : BindingId × Constraint) → i < length xs → IsAmong xs (get_or xs i d)
among_there [] i d lt = absurd (omega (arith, lt))
among_there (x ∷ xs) zero d lt = inl refl
among_there (x ∷ xs) (suc i) d lt = inr (among_there xs i d (omega (arith, lt)))

-- the rarer of the best so far and the next one
pub rarer_among : (xs : Constraints) (i : ℕ) (d : BindingId × Constraint) (best : Option (Key × ℕ)) (next : Key × ℕ) (n : ℕ) → i < length xs → IfSome best (λ (c : Key × ℕ). Bears xs c.0) → (best ≡ Some next) ⊎ (next ≡ (key.Constraint (get_or xs i d).0 (get_or xs i d).1, n)) → Bears xs next.0
rarer_among xs i d best next n lt h (inl e) = subst (λ (o : Option (Key × ℕ)). IfSome o (λ (c : Key × ℕ). Bears xs c.0)) e h
rarer_among xs i d best next n lt h (inr e) = subst (Bears xs) (sym (ap (λ (c : Key × ℕ). c.0) e)) (among_there xs i d lt)

-- ---- candidates

in_each : (lists : Listing) (xs : Constraints) (x : BindingId) (c : Constraint) (a : Placed) → IsAmong xs (x, c) → Contains (lists (Some (key.Constraint x c))) a → Contains (under_each lists xs) a
in_each lists [] x c a h k = absurd h
in_each lists (y ∷ ys) x c a h k = ⊎_elim
    (λ (e : y ≡ (x, c)). Contains-append_left (lists (Some (key.Constraint y.0 y.1))) (under_each lists ys) a (subst (λ (z : BindingId × Constraint). Contains (lists (Some (key.Constraint z.0 z.1))) a) (sym e) k))
    (λ d. Contains-append_right (lists (Some (key.Constraint y.0 y.1))) (under_each lists ys) a (in_each lists ys x c a d k))
    h

-- a rule whose constraints stand among others is listed under one of them, or under none
in_candidates : (lists : Listing) (xs ys : Constraints) (a : Placed) (k : Option Key) → MayHave BearsKey a.rule.now k → Contains (lists k) a → AreAmong a.rule.now.constraints ys → Contains (candidates lists ys) a
in_candidates lists xs ys a None h c among = Contains-append_left (lists None) (under_each lists ys) a c
in_candidates lists xs ys a (Some (key.Priority p)) h c among = absurd h
in_candidates lists xs ys a (Some (key.Constraint x d)) h c among = Contains-append_right (lists None) (under_each lists ys) a (in_each lists ys x d a (among_at a.rule.now.constraints ys (x, d) among h) c)

each_within : (lists : Listing) (group : List Placed) (xs : Constraints) → AreLists BearsKey group lists → (a : Placed) → Contains (under_each lists xs) a → Contains group a
each_within lists group [] h a c = absurd (none_contained a c)
each_within lists group (x ∷ xs) h a c = ⊎_elim (λ d. h.from (Some (key.Constraint x.0 x.1)) a d) (λ d. each_within lists group xs h a d) (Contains-append_cases (lists (Some (key.Constraint x.0 x.1))) (under_each lists xs) a c)

-- what was found among the candidates was found among all
pub candidates_found : (group : List Placed) (lists : Listing) (b : Placed) (old new : Found) → AreLists BearsKey group lists → Finds check.Shadows (candidates lists b.rule.now.constraints) (b ∷ []) old new → Finds check.Shadows group (b ∷ []) old new
candidates_found group lists b old new h f = find_enlarged check.Shadows (candidates lists xs) group (b ∷ []) (b ∷ []) old new within (λ a c. c) made f
  where
    xs : Constraints
    xs = b.rule.now.constraints

    within : (a : Placed) → Contains (candidates lists xs) a → Contains group a
    within a c = ⊎_elim (λ d. h.from None a d) (λ d. each_within lists group xs h a d) (Contains-append_cases (lists None) (under_each lists xs) a c)

    made : (a c : Placed) → Contains group a → Contains (b ∷ []) c → Makes check.Shadows a c → Contains (candidates lists xs) a × Contains (b ∷ []) c
    made a c d e m =
        let l = h.all a d in
        let among : AreAmong a.rule.now.constraints xs = subst (λ (x : Placed). AreAmong a.rule.now.constraints x.rule.now.constraints) (sym (only_one b c e)) m.among in
        (in_candidates lists xs xs a l.key l.has l.among among, e)

-- what was found among the rules without equalities was found among all
pub plain_found : (group plain : List Placed) (old new : Found) → ArePlain group plain → Finds check.Shadows plain plain old new → Finds check.Shadows group group old new
plain_found group plain old new h f = find_enlarged check.Shadows plain group plain group old new h.from h.from (λ a b c d m. (h.all a c m.plain, h.all b d m.also_plain)) f

-- ---- one list of candidates after another

-- with what is found under those that are left, all are compared
abbrev pub FindsBut : Listing → (all left : Constraints) → Placed → (old now : Found) → Type 0
FindsBut lists all left b old now = (new : Found) → Finds check.Shadows (under_each lists left) (b ∷ []) now new → Finds check.Shadows (under_each lists all) (b ∷ []) old new

pub more_compared : (lists : Listing) (all : Constraints) (b : Placed) (i : ℕ) (d : BindingId × Constraint) (old now next : Found) → i < length all → Finds check.Shadows (lists (Some (key.Constraint (get_or all i d).0 (get_or all i d).1))) (b ∷ []) now next
    → FindsBut lists all (drop i all) b old now → FindsBut lists all (drop (i + 1) all) b old next
more_compared lists all b i d old now next lt f h new g =
    h new (subst (λ xs. Finds check.Shadows (under_each lists xs) (b ∷ []) now new) (sym (drop_more all i d lt)) (find_makers check.Shadows now next new (lists (Some (key.Constraint (get_or all i d).0 (get_or all i d).1))) (under_each lists (drop (i + 1) all)) (b ∷ []) f g))

pub all_compared : (lists : Listing) (all left : Constraints) (b : Placed) (old now : Found) → left ≡ [] → FindsBut lists all left b old now → Finds check.Shadows (under_each lists all) (b ∷ []) old now
all_compared lists all left b old now e h = h now (subst (λ xs. Finds check.Shadows (under_each lists xs) (b ∷ []) now now) (sym e) (nobody_found check.Shadows (b ∷ []) now))
