-- A way more among groups, beside the places of their constraints.
use Rattle.std.proofs.Common.{◌≡◌, ℕ, zero, suc, ◌<◌, List, [], ◌∷◌, ◌++◌, length, get_or, set, map, Bool, true, false, cond, Option, Some, None, refl, sym, ap, ◌∙◌, subst, arith}
use Rattle.std.specs.Prelude.{option_map}
use Rattle.std.specs.Ordering.{is_eq}
use Rattle.std.specs.BTreeMap.{BTreeMap, get, Updates}
use Rattle.std.proofs.lemmas.List.{map_push, length-map}
use Rattle.isle_core.specs.declared.rule_sets.Constraint.{Constraint}
use Rattle.isle_blocks.specs.declared.gathering.Group.{Group}
use Rattle.isle_blocks.specs.declared.ways.Way.{Way as CodeWay}
use Rattle.isle_blocks.specs.Tree.{Way}
use Rattle.isle_blocks.specs.Ways.{way, group, constraint_cmp, add_to, place_of}
use Rattle.isle_blocks.proofs.ConstraintOrder.{constraint_same, constraint_itself}

-- a group by its parts
abbrev grouped : Constraint → List Way → Constraint × List Way
grouped c ws = (c, ws)

-- ---- where the constraint has a group

pub place_within : (c : Constraint) (gs : List Group) (n : ℕ) → place_of c (map group gs) ≡ Some n → n < length gs
place_within c [] n e = cc
place_within c (g ∷ gs) n e = pick (is_eq (constraint_cmp c g.constraint)) (place_of c (map group gs)) e (place_within c gs)
  where
    pick : (t : Bool) (o : Option ℕ) → cond t (Some 0) (option_map suc o) ≡ Some n → ((m : ℕ) → o ≡ Some m → m < length gs) → n < suc (length gs)
    pick true o e f = let is : 0 ≡ n = cc in omega (arith, is)
    pick false None e f = cc
    pick false (Some m) e f = let is : suc m ≡ n = cc in let lt = f m refl in omega (arith, is, lt)

one_way : (w : CodeWay) (g new : Group) → new.constraint ≡ g.constraint → new.ways.items ≡ g.ways.items ++ w ∷ [] → group new ≡ grouped g.constraint (map way g.ways.items ++ way w ∷ [])
one_way w g new same more = ap (λ c. grouped c (map way new.ways.items)) same ∙ ap (grouped g.constraint) (ap (map way) more ∙ map_push way g.ways.items w)

-- the way goes to it
pub added_there : (c : Constraint) (w : CodeWay) (gs : List Group) (n : ℕ) (g new d : Group) → place_of c (map group gs) ≡ Some n → g ≡ get_or gs n d → new.constraint ≡ g.constraint → new.ways.items ≡ g.ways.items ++ w ∷ []
    → map group (set gs n new) ≡ add_to c (way w) (map group gs)
added_there c w [] n g new d e is same more = cc
added_there c w (x ∷ xs) zero g new d e is same more = pick (is_eq (constraint_cmp c x.constraint)) (place_of c (map group xs)) e
  where
    pick : (t : Bool) (o : Option ℕ) → cond t (Some 0) (option_map suc o) ≡ Some 0
        → group new ∷ map group xs ≡ cond {A = List (Constraint × List Way)} t (grouped x.constraint (map way x.ways.items ++ way w ∷ []) ∷ map group xs) (group x ∷ add_to c (way w) (map group xs))
    pick true o e' = ap (λ y. y ∷ map group xs) (one_way w x new (same ∙ ap (λ (y : Group). y.constraint) is) (more ∙ ap (λ (y : Group). y.ways.items ++ w ∷ []) is))
    pick false None e' = cc
    pick false (Some k) e' = cc
added_there c w (x ∷ xs) (suc m) g new d e is same more = pick (is_eq (constraint_cmp c x.constraint)) (place_of c (map group xs)) e (λ k. added_there c w xs m g new d k is same more)
  where
    pick : (t : Bool) (o : Option ℕ) → cond t (Some 0) (option_map suc o) ≡ Some (suc m) → (o ≡ Some m → map group (set xs m new) ≡ add_to c (way w) (map group xs))
        → group x ∷ map group (set xs m new) ≡ cond {A = List (Constraint × List Way)} t (grouped x.constraint (map way x.ways.items ++ way w ∷ []) ∷ map group xs) (group x ∷ add_to c (way w) (map group xs))
    pick true o e' f = cc
    pick false None e' f = cc
    pick false (Some k) e' f = let is' : k ≡ m = cc in ap (λ ys. group x ∷ ys) (f (ap Some is'))

-- and places stay
pub places_kept : (q : Constraint) (gs : List Group) (n : ℕ) (g new d : Group) → g ≡ get_or gs n d → new.constraint ≡ g.constraint → place_of q (map group gs) ≡ place_of q (map group (set gs n new))
places_kept q [] n g new d is same = refl
places_kept q (x ∷ xs) zero g new d is same = ap (λ (c : Constraint). cond (is_eq (constraint_cmp q c)) (Some 0) (option_map suc (place_of q (map group xs)))) (sym (same ∙ ap (λ (y : Group). y.constraint) is))
places_kept q (x ∷ xs) (suc m) g new d is same = ap (λ o. cond (is_eq (constraint_cmp q x.constraint)) (Some 0) (option_map suc o)) (places_kept q xs m g new d is same)

-- ---- where it has none

-- none among the later ones
none_later : (t : Bool) (o : Option ℕ) → cond t (Some 0) (option_map suc o) ≡ None → (t ≡ false) × (o ≡ None)
none_later true o e = cc
none_later false None e = (refl, refl)
none_later false (Some m) e = cc

add_new : (c : Constraint) (w : Way) (gs : List (Constraint × List Way)) → place_of c gs ≡ None → add_to c w gs ≡ gs ++ (c, w ∷ []) ∷ []
add_new c w [] e = refl
add_new c w (g ∷ gs) e =
    let k = none_later (is_eq (constraint_cmp c g.0)) (place_of c gs) e in
    ap (λ t. cond {A = List (Constraint × List Way)} t ((g.0, g.1 ++ w ∷ []) ∷ gs) (g ∷ add_to c w gs)) k.0 ∙ ap (λ hs. g ∷ hs) (add_new c w gs k.1)

place_last : (c : Constraint) (ws : List Way) (gs : List (Constraint × List Way)) → place_of c gs ≡ None → place_of c (gs ++ (c, ws) ∷ []) ≡ Some (length gs)
place_last c ws [] e = ap (λ t. cond {A = Option ℕ} t (Some 0) None) (constraint_itself c c refl)
place_last c ws (g ∷ gs) e =
    let k = none_later (is_eq (constraint_cmp c g.0)) (place_of c gs) e in
    ap (λ t. cond t (Some 0) (option_map suc (place_of c (gs ++ (c, ws) ∷ [])))) k.0 ∙ ap (option_map suc) (place_last c ws gs k.1)

place_other : (c q : Constraint) (ws : List Way) (gs : List (Constraint × List Way)) → is_eq (constraint_cmp c q) ≡ false → place_of q (gs ++ (c, ws) ∷ []) ≡ place_of q gs
place_other c q ws [] e = pick (is_eq (constraint_cmp q c)) refl
  where
    both : true ≡ false → ⊥
    both k = cc

    pick : (t : Bool) → is_eq (constraint_cmp q c) ≡ t → cond {A = Option ℕ} t (Some 0) None ≡ None
    pick false k = refl
    pick true k = absurd (both (sym (constraint_itself c q (sym (constraint_same q c k))) ∙ e))
place_other c q ws (g ∷ gs) e = ap (λ o. cond (is_eq (constraint_cmp q g.0)) (Some 0) (option_map suc o)) (place_other c q ws gs e)

place_more : (c q : Constraint) (ws : List Way) (gs : List (Constraint × List Way)) → place_of c gs ≡ None → place_of q (gs ++ (c, ws) ∷ []) ≡ cond (is_eq (constraint_cmp c q)) (Some (length gs)) (place_of q gs)
place_more c q ws gs none = pick (is_eq (constraint_cmp c q)) refl
  where
    pick : (t : Bool) → is_eq (constraint_cmp c q) ≡ t → place_of q (gs ++ (c, ws) ∷ []) ≡ cond t (Some (length gs)) (place_of q gs)
    pick true k = subst (λ p. place_of p (gs ++ (c, ws) ∷ []) ≡ Some (length gs)) (constraint_same c q k) (place_last c ws gs none)
    pick false k = place_other c q ws gs k

module _ (c : Constraint) (w : CodeWay) (gs more : List Group) (new : Group) (none : place_of c (map group gs) ≡ None) (is : more ≡ gs ++ new ∷ []) (same : new.constraint ≡ c) (one : new.ways.items ≡ w ∷ []) where
  all : map group more ≡ map group gs ++ grouped c (way w ∷ []) ∷ []
  all = ap (map group) is ∙ map_push group gs new ∙ ap (λ (g : Constraint × List Way). map group gs ++ g ∷ []) (ap (λ d. grouped d (map way new.ways.items)) same ∙ ap (λ ws. grouped c (map way ws)) one)

  -- the way makes one
  pub added_new : map group more ≡ add_to c (way w) (map group gs)
  added_new = all ∙ sym (add_new c (way w) (map group gs) none)

  -- whose place is the last
  pub placed_new : (old now : BTreeMap Constraint ℕ) (n : ℕ) → ((q : Constraint) → get constraint_cmp old q ≡ place_of q (map group gs)) → Updates constraint_cmp old now c (Some n) → n ≡ length gs
      → (q : Constraint) → get constraint_cmp now q ≡ place_of q (map group more)
  placed_new old now n known u last q =
      u.0 q
      ∙ ap (cond (is_eq (constraint_cmp c q)) (Some n)) (known q)
      ∙ ap (λ m. cond (is_eq (constraint_cmp c q)) (Some m) (place_of q (map group gs))) (last ∙ sym (length-map gs group))
      ∙ sym (place_more c q (way w ∷ []) (map group gs) none)
      ∙ ap (place_of q) (sym all)
