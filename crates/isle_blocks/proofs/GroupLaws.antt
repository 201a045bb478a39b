-- Ways gathered by their constraints are groups of them.
use Rattle.std.proofs.Common.{◌≡◌, ℕ, zero, suc, ◌<◌, ◌≤◌, List, [], ◌∷◌, ◌++◌, length, get_or, map, Bool, true, false, cond, refl, sym, ap, ◌∙◌, subst, append_assoc, append-nil, arith}
use Rattle.std.specs.List.{AllByRecursion}
use Rattle.std.specs.Ordering.{is_eq}
use Rattle.isle_core.specs.declared.BindingId.{BindingId}
use Rattle.isle_core.specs.declared.rule_sets.Constraint.{Constraint}
use Rattle.isle_core.specs.declared.rule_sets.FlatRule.{FlatRule}
use Rattle.isle_blocks.specs.declared.gathering.Group.{Group}
use Rattle.isle_blocks.specs.Gathered.{without_first, put, gather, AreGroups, AreShort}
use Rattle.isle_blocks.specs.Gathered as groups
use Rattle.isle_blocks.specs.Tree.{Way, Tests, AllTest, Parts}
use Rattle.isle_blocks.specs.Tree as tree
use Rattle.isle_blocks.specs.TreeSteps.{AreLeftShort}
use Rattle.isle_blocks.specs.Ways.{constraint_cmp, add_to, group}
use Rattle.isle_blocks.proofs.ConstraintOrder.{constraint_same, constraint_apart}
use Rattle.isle_blocks.proofs.ShortWays.{short_push}

-- ---- one way more, after the others

-- with the constraint
parts_same : (c : Constraint) (j : Constraint × Way) (js others : List (Constraint × Way)) (ws : List Way) → j.0 ≡ c → Parts c js ws others → Parts c (js ++ j ∷ []) (ws ++ j.1 ∷ []) others
parts_same c j js others ws e tree.none = tree.same j [] [] [] e tree.none
parts_same c j js others ws e (tree.same i more rest vs k h) = tree.same i (more ++ j ∷ []) rest (vs ++ j.1 ∷ []) k (parts_same c j more rest vs e h)
parts_same c j js others ws e (tree.other i more rest vs n h) = tree.other i (more ++ j ∷ []) rest (vs ++ j.1 ∷ []) n (parts_same c j more rest vs e h)

-- with another one
parts_other : (c : Constraint) (j : Constraint × Way) (js others : List (Constraint × Way)) (ws : List Way) → (j.0 ≡ c → ⊥) → Parts c js ws others → Parts c (js ++ j ∷ []) ws (others ++ j ∷ [])
parts_other c j js others ws n tree.none = tree.other j [] [] [] n tree.none
parts_other c j js others ws n (tree.same i more rest vs k h) = tree.same i (more ++ j ∷ []) (rest ++ j ∷ []) vs k (parts_other c j more rest vs n h)
parts_other c j js others ws n (tree.other i more rest vs m h) = tree.other i (more ++ j ∷ []) (rest ++ j ∷ []) vs m (parts_other c j more rest vs n h)

-- a way goes to the group of its constraint, or makes one
add_group : (c : Constraint) (w : Way) (js : List (Constraint × Way)) (gs : List (Constraint × List Way)) → AreGroups js gs → AreGroups (js ++ (c, w) ∷ []) (add_to c w gs)
add_group c w js gs groups.none = groups.group c ((c, w) ∷ []) [] w [] [] (tree.same (c, w) [] [] [] refl tree.none) groups.none
add_group c w js gs (groups.group d more others v vs hs parts k) = pick (is_eq (constraint_cmp c d)) refl (add_group c w others hs k)
  where
    pick : (t : Bool) → is_eq (constraint_cmp c d) ≡ t → AreGroups (others ++ (c, w) ∷ []) (add_to c w hs)
        → AreGroups (more ++ (c, w) ∷ []) (cond {A = List (Constraint × List Way)} t ((d, (v ∷ vs) ++ w ∷ []) ∷ hs) ((d, v ∷ vs) ∷ add_to c w hs))
    pick true e h = groups.group d (more ++ (c, w) ∷ []) others v (vs ++ w ∷ []) hs (parts_same d (c, w) more others (v ∷ vs) (constraint_same c d e) parts) k
    pick false e h = groups.group d (more ++ (c, w) ∷ []) (others ++ (c, w) ∷ []) v vs (add_to c w hs) (parts_other d (c, w) more others (v ∷ vs) (constraint_apart c d e) parts) h

-- ---- all ways

-- a way by its parts
abbrev way_from : FlatRule → List (BindingId × Constraint) → List (BindingId × Constraint) → Way
way_from f early late = record { rule = f; early = early; late = late }

-- what is left of a way is the way without its first test
left_is : (w left : Way) → left.rule ≡ w.rule → left.late ≡ w.late → without_first left.early w ≡ left
left_is w left rule late = ap (λ f. way_from f left.early w.late) (sym rule) ∙ ap (way_from left.rule left.early) (sym late)

put_is : (source : BindingId) (w left : Way) (c : Constraint) (gs : List (Constraint × List Way)) → Tests source w c left → put w.early w gs ≡ add_to c left gs
put_is source w left c gs k = ap (λ (es : List (BindingId × Constraint)). put es w gs) k.tests ∙ ap (λ v. add_to c v gs) (left_is w left k.rule k.late)

-- ways after those that are gathered
pub gather_groups : (source : BindingId) (ws : List Way) (js before : List (Constraint × Way)) (gs : List (Constraint × List Way)) → AllTest source ws js → AreGroups before gs → AreGroups (before ++ js) (gather gs ws)
gather_groups source [] [] before gs k h = subst (λ xs. AreGroups xs gs) (sym (append-nil before)) h
gather_groups source (w ∷ ws) (j ∷ js) before gs k h =
    subst (λ xs. AreGroups xs (gather (put w.early w gs) ws)) (append_assoc before (j ∷ []) js)
    (gather_groups source ws js (before ++ j ∷ []) (put w.early w gs) k.1 (subst (AreGroups (before ++ j ∷ [])) (sym (put_is source w j.1 j.0 gs k.0)) (add_group j.0 j.1 before gs h)))
gather_groups source [] (j ∷ js) before gs k h = absurd k
gather_groups source (w ∷ ws) [] before gs k h = absurd k

-- so of all
pub gathered_groups : (source : BindingId) (ws : List Way) (js : List (Constraint × Way)) → AllTest source ws js → AreGroups js (gather [] ws)
gathered_groups source ws js k = gather_groups source ws js [] [] k groups.none

-- ---- how many tests are left

-- the ways of each group are short
abbrev pub AreGroupsShort : ℕ → List (Constraint × List Way) → Type 0
AreGroupsShort depth gs = AllByRecursion (λ (g : Constraint × List Way). AreShort depth g.1) gs

add_short : (depth : ℕ) (c : Constraint) (w : Way) (gs : List (Constraint × List Way)) → length w.early ≤ depth → AreGroupsShort depth gs → AreGroupsShort depth (add_to c w gs)
add_short depth c w [] le h = ((le, tt), tt)
add_short depth c w (g ∷ gs) le h = pick (is_eq (constraint_cmp c g.0)) (add_short depth c w gs le h.1)
  where
    pick : (t : Bool) → AreGroupsShort depth (add_to c w gs) → AreGroupsShort depth (cond {A = List (Constraint × List Way)} t ((g.0, g.1 ++ w ∷ []) ∷ gs) (g ∷ add_to c w gs))
    pick true k = (short_push depth g.1 w h.0 le, h.1)
    pick false k = (h.0, k)

put_short : (depth : ℕ) (early : List (BindingId × Constraint)) (w : Way) (gs : List (Constraint × List Way)) → length early ≤ suc depth → AreGroupsShort depth gs → AreGroupsShort depth (put early w gs)
put_short depth [] w gs le h = h
put_short depth (c ∷ early) w gs le h = add_short depth c.1 (without_first early w) gs (omega arith) h

-- a test of each is made
gather_short : (depth : ℕ) (ws : List Way) (gs : List (Constraint × List Way)) → AreLeftShort depth ws → AreGroupsShort depth gs → AreGroupsShort depth (gather gs ws)
gather_short depth [] gs k h = h
gather_short depth (w ∷ ws) gs k h = gather_short depth ws (put w.early w gs) k.1 (put_short depth w.early w gs k.0 h)

pub gathered_short : (depth : ℕ) (ws : List Way) → AreLeftShort depth ws → AreGroupsShort depth (gather [] ws)
gathered_short depth ws k = gather_short depth ws [] k tt

-- so those of one of the code's
pub short_group : (depth : ℕ) (gs : List Group) (i : ℕ) (x d : Group) → i < length gs → x ≡ get_or gs i d → AreGroupsShort depth (map group gs) → AreShort depth (group x).1
short_group depth [] i x d lt is h = absurd (omega (arith, lt))
short_group depth (g ∷ gs) zero x d lt is h = subst (λ (y : Group). AreShort depth (group y).1) (sym is) h.0
short_group depth (g ∷ gs) (suc i) x d lt is h = short_group depth gs i x d (omega (arith, lt)) is h.1
