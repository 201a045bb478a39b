-- Rules are grouped by their terms, and each group becomes a rule set.
use Rattle.std.proofs.Common.{◌≡◌, ◌⊎◌, inl, inr, ⊎_elim, ℕ, zero, suc, ◌<◌, ◌≤◌, ◌+◌, List, [], ◌∷◌, ◌++◌, Bool, true, false, cond, eqb, ◌||◌, length, map, take, get_or, Some, refl, sym, ap, ◌∙◌, subst, arith, Bor}
use Rattle.std.specs.Prelude.{All, slice_get, filter}
use Rattle.std.specs.List.{list_any, range_with_len}
use Rattle.std.specs.Global.{Vec}
use Rattle.std.proofs.Math.ListN.{set}
use Rattle.std.proofs.lemmas.Bool.{eq-eqb, ne_eqb, eqb-true, eqb-false}
use Rattle.std.proofs.lemmas.List.{map_more, map-append, map_push, length-map, length-set}
use Rattle.std.proofs.lemmas.List.FromFn.{map-range_with_len_more}
use Rattle.std.proofs.lemmas.List.Elements.{All-filter, All-push}
use Rattle.std.proofs.lemmas.Option.{slice_get-get_or, slice_get_within}
use Rattle.isle_core.specs.declared.TermId.{TermId}
use Rattle.isle_core.specs.declared.rule_sets.RuleSet.{RuleSet}
use Rattle.isle_core.specs.declared.rules.Rule.{Rule as CodeRule}
use Rattle.isle_core.specs.declared.types.Term.{Term}
use Rattle.isle_core.specs.declared.types.TermEnv.{TermEnv}
use Rattle.isle_core.specs.declared.types.TypeEnv.{TypeEnv}
use Rattle.isle_core.specs.RuleViews.{rule, rules, environment}
use Rattle.isle_core.specs.StandsFor.{StandsFor}
use Rattle.isle_core.specs.Rule.{Environment, Rule}
use Rattle.isle_rulesets.specs.Grouping.{AreGroups, AreRuleSets, AreSetsBelow}

-- ---- one rule more

-- a rule of the i-th term
abbrev is_of : ℕ → Rule → Bool
is_of i r = eqb r.root_term.0 i

filter_push : {A : Type 0} (p : A → Bool) (xs : List A) (x : A) (b : Bool) → p x ≡ b → filter p (xs ++ x ∷ []) ≡ cond b (filter p xs ++ x ∷ []) (filter p xs)
filter_push p [] x true e = ap (λ b. cond b (x ∷ []) []) e
filter_push p [] x false e = ap (λ b. cond b (x ∷ []) []) e
filter_push p (y ∷ xs) x b e = ap (λ zs. cond (p y) (y ∷ zs) zs) (filter_push p xs x b e) ∙ out (p y) b
  where
    out : (c d : Bool) → cond c (y ∷ cond d (filter p xs ++ x ∷ []) (filter p xs)) (cond d (filter p xs ++ x ∷ []) (filter p xs)) ≡ cond d (cond c (y ∷ filter p xs) (filter p xs) ++ x ∷ []) (cond c (y ∷ filter p xs) (filter p xs))
    out true true = refl
    out true false = refl
    out false true = refl
    out false false = refl

set_cases : {A : Type 0} (xs : List A) (t i : ℕ) (y x : A) → slice_get (set xs t y) i ≡ Some x → ((t ≡ i) × (y ≡ x)) ⊎ ((t ≡ i → ⊥) × (slice_get xs i ≡ Some x))
set_cases [] t i y x e = cc
set_cases (z ∷ xs) zero zero y x e = inl (refl, cc)
set_cases (z ∷ xs) zero (suc i) y x e = inr (λ h. omega arith, e)
set_cases (z ∷ xs) (suc t) zero y x e = inr (λ h. omega arith, e)
set_cases (z ∷ xs) (suc t) (suc i) y x e = ⊎_elim (λ h. inl (ap suc h.0, h.1)) (λ h. inr (λ k. h.0 (down t i k), h.1)) (set_cases xs t i y x e)
  where
    down : (a b : ℕ) → suc a ≡ suc b → a ≡ b
    down a b k = omega arith

pub get_at : {A : Type 0} (xs : List A) (t : ℕ) (x : A) → t < length xs → x ≡ get_or xs t x → slice_get xs t ≡ Some x
get_at xs t x lt is = slice_get-get_or xs t x lt ∙ ap Some (sym is)

pub groups_push : (gs : List (Vec (Bor CodeRule))) (count : ℕ) (rs : List Rule) (r : Bor CodeRule) (t : ℕ) (old new : Vec (Bor CodeRule)) → (rule r.now).root_term.0 ≡ t → AreGroups gs count rs → slice_get gs t ≡ Some old → new.items ≡ old.items ++ r ∷ []
    → AreGroups (set gs t new) count (rs ++ rule r.now ∷ [])
groups_push gs count rs r t old new of h there more = record {
  many = length-set gs t new ∙ h.many;
  each = λ i g e. ⊎_elim (λ k. here i g k) (λ k. other i g k) (set_cases gs t i new g e);
}
  where
    grown : rules new.items ≡ filter (is_of t) (rs ++ rule r.now ∷ [])
    grown =
        ap rules more ∙ map-append (λ (b : Bor CodeRule). rule b.now) old.items (r ∷ []) ∙ ap (λ xs. xs ++ rule r.now ∷ []) (h.each t old there)
        ∙ sym (filter_push (is_of t) rs (rule r.now) true (eq-eqb (rule r.now).root_term.0 t of))

    here : (i : ℕ) (g : Vec (Bor CodeRule)) → (t ≡ i) × (new ≡ g) → rules g.items ≡ filter (is_of i) (rs ++ rule r.now ∷ [])
    here i g k = subst (λ j. rules g.items ≡ filter (is_of j) (rs ++ rule r.now ∷ [])) k.0 (subst (λ (v : Vec (Bor CodeRule)). rules v.items ≡ filter (is_of t) (rs ++ rule r.now ∷ [])) k.1 grown)

    other : (i : ℕ) (g : Vec (Bor CodeRule)) → (t ≡ i → ⊥) × (slice_get gs i ≡ Some g) → rules g.items ≡ filter (is_of i) (rs ++ rule r.now ∷ [])
    other i g k = h.each i g k.1 ∙ sym (filter_push (is_of i) rs (rule r.now) false (ne_eqb (rule r.now).root_term.0 i (λ e. k.0 (sym of ∙ e))))

-- a rule of no group
pub groups_skip : (gs : List (Vec (Bor CodeRule))) (count : ℕ) (rs : List Rule) (r : Rule) → length gs ≤ r.root_term.0 → AreGroups gs count rs → AreGroups gs count (rs ++ r ∷ [])
groups_skip gs count rs r le h = record {
  many = h.many;
  each = λ i g e. h.each i g e ∙ sym (filter_push (is_of i) rs r false (ne_eqb r.root_term.0 i (apart i g e)));
}
  where
    apart : (i : ℕ) (g : Vec (Bor CodeRule)) → slice_get gs i ≡ Some g → r.root_term.0 ≡ i → ⊥
    apart i g e k = let lt = slice_get_within gs i g e in omega arith

pub rules_more : (gs : List (Vec (Bor CodeRule))) (count : ℕ) (rs : List CodeRule) (i : ℕ) (x : CodeRule) → i < length rs → x ≡ get_or rs i x → AreGroups gs count (map rule (take i rs) ++ rule x ∷ []) → AreGroups gs count (map rule (take (i + 1) rs))
rules_more gs count rs i x lt is h = subst (AreGroups gs count) (sym (map_more rule rs i x lt ∙ ap (λ y. map rule (take i rs) ++ rule y ∷ []) (sym is))) h

-- ---- a term more

any_some : {A : Type 0} (p : A → Bool) (xs : List A) → 0 < length (filter p xs) → list_any p xs ≡ true
any_some p [] h = absurd (omega arith)
any_some p (x ∷ xs) h = at_head (p x) (any_some p xs) h
  where
    at_head : (b : Bool) → (0 < length (filter p xs) → list_any p xs ≡ true) → 0 < length (cond b (x ∷ filter p xs) (filter p xs)) → (b || list_any p xs) ≡ true
    at_head true rest k = refl
    at_head false rest k = rest k

any_none : {A : Type 0} (p : A → Bool) (xs : List A) → length (filter p xs) ≡ 0 → list_any p xs ≡ false
any_none p [] h = refl
any_none p (x ∷ xs) h = at_head (p x) (any_none p xs) h
  where
    at_head : (b : Bool) → (length (filter p xs) ≡ 0 → list_any p xs ≡ false) → length (cond b (x ∷ filter p xs) (filter p xs)) ≡ 0 → (b || list_any p xs) ≡ false
    at_head true rest k = absurd (omega arith)
    at_head false rest k = rest k

-- the terms before the n-th, and the n-th
abbrev ids : ℕ → List TermId
ids n = map (λ (i : ℕ). record { 0 = i }) (range_with_len 0 n)

abbrev has : List Rule → TermId → Bool
has rs id = list_any (is_of id.0) rs

ids_more : (rs : List Rule) (n : ℕ) (b : Bool) → has rs (record { 0 = n }) ≡ b → filter (has rs) (ids (n + 1)) ≡ cond b (filter (has rs) (ids n) ++ record { 0 = n } ∷ []) (filter (has rs) (ids n))
ids_more rs n b e = ap (filter (has rs)) (map-range_with_len_more (λ (i : ℕ). record { 0 = i }) 0 n n (omega arith)) ∙ filter_push (has rs) (ids n) (record { 0 = n }) b e

length_seen : (rs : List (Bor CodeRule)) (all : List Rule) (n : ℕ) → rules rs ≡ filter (is_of n) all → length rs ≡ length (filter (is_of n) all)
length_seen rs all n e = sym (length-map rs (λ (r : Bor CodeRule). rule r.now)) ∙ ap length e

-- the rule sets below a place, for each environment of these terms
abbrev pub SetsIn : List Term → List Rule → ℕ → List (TermId × RuleSet) → Type 0
SetsIn terms rs n sets = (env : Environment) → env.terms ≡ terms → AreSetsBelow env rs n sets

pub sets_push : (terms slice : List Term) (rs : List Rule) (n : ℕ) (g : List (Bor CodeRule)) (sets items : List (TermId × RuleSet)) (s : RuleSet) → rules g ≡ filter (is_of n) rs → 0 < length g → SetsIn terms rs n sets
    → slice ≡ terms → ((env : Environment) → env.terms ≡ slice → StandsFor env s (rules g)) → items ≡ sets ++ (record { 0 = n }, s) ∷ [] → SetsIn terms rs (n + 1) items
sets_push terms slice rs n g sets items s e some below all st more env same =
    let h = below env same in
    let P : TermId × RuleSet → Type 0 = λ x. StandsFor env x.1 (filter (is_of x.0.0) rs) in
    record {
      ids = ap (map (λ (x : TermId × RuleSet). x.0)) more ∙ map_push (λ (x : TermId × RuleSet). x.0) sets (record { 0 = n }, s) ∙ ap (λ xs. xs ++ record { 0 = n } ∷ []) h.ids ∙ sym (ids_more rs n true (any_some (is_of n) rs long));
      stand = subst (All P) (sym more) (All-push P sets (record { 0 = n }, s) h.stand (subst (StandsFor env s) e (st env (same ∙ sym all))));
    }
  where
    long : 0 < length (filter (is_of n) rs)
    long = subst (λ k. 0 < k) (length_seen g rs n e) some

pub sets_skip : (terms : List Term) (rs : List Rule) (n : ℕ) (g : List (Bor CodeRule)) (sets : List (TermId × RuleSet)) → rules g ≡ filter (is_of n) rs → length g ≡ 0 → SetsIn terms rs n sets → SetsIn terms rs (n + 1) sets
sets_skip terms rs n g sets e none below env same =
    let h = below env same in
    record {
      ids = h.ids ∙ sym (ids_more rs n false (any_none (is_of n) rs (sym (length_seen g rs n e) ∙ none)));
      stand = h.stand;
    }

-- after the last group
pub sets_over : (types : TypeEnv) (terms : TermEnv) (n : ℕ) (sets : List (TermId × RuleSet)) → n ≡ length terms.terms → SetsIn terms.terms (map rule terms.rules) n sets → AreRuleSets (environment types terms) sets
sets_over types terms n sets many below =
    let h = below (environment types terms) refl in
    record { ids = h.ids ∙ ap (λ k. filter (has (map rule terms.rules)) (ids k)) many; stand = h.stand }

-- the rules of a group are rules of the list
pub group_all : (P : Rule → Type 0) (rs : List Rule) (n : ℕ) (g : List (Bor CodeRule)) → rules g ≡ filter (is_of n) rs → All P rs → All P (rules g)
group_all P rs n g e h = subst (All P) (sym e) (All-filter (is_of n) P rs h)

-- the rules of the group at a place
pub group_seen : (gs xs : List (Vec (Bor CodeRule))) (count : ℕ) (slice all : List CodeRule) (i : ℕ) (g : Vec (Bor CodeRule)) (items : List (Bor CodeRule)) → AreGroups gs count (map rule slice) → slice ≡ all → xs ≡ gs → i < length xs → g ≡ get_or xs i g → items ≡ g.items
    → rules items ≡ filter (is_of i) (map rule all)
group_seen gs xs count slice all i g items h same at lt is seen =
    ap rules seen ∙ h.each i g (ap (λ ys. slice_get ys i) (sym at) ∙ get_at xs i g lt is) ∙ ap (λ rs. filter (is_of i) (map rule rs)) same

-- a list that is not empty by its test
pub not_empty : (b : Bool) (n k : ℕ) → b ≡ eqb n 0 → b ≡ false → k ≡ n → 0 < k
not_empty b n k e f l = let apart = eqb-false n 0 (sym e ∙ f) in positive k (λ z. apart (sym l ∙ z))
  where
    positive : (k : ℕ) → (k ≡ 0 → ⊥) → 0 < k
    positive zero h = absurd (h refl)
    positive (suc k) h = omega arith

-- an empty one
pub is_none : (b : Bool) (n k : ℕ) → b ≡ eqb n 0 → b ≡ true → n ≡ k → k ≡ 0
is_none b n k e f l = sym l ∙ eqb-true n 0 (sym e ∙ f)
