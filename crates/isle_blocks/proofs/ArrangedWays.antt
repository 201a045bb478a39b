-- Ways that are arranged, one more, and sorted.
use Rattle.std.proofs.Common.{◌≡◌, ℕ, ◌+◌, ◌<◌, List, [], ◌∷◌, ◌++◌, Bool, length, take, get_or, map, refl, sym, ap, ◌∙◌, subst}
use Rattle.std.specs.List.{AllByRecursion}
use Rattle.std.specs.Cmp.{IsStrictWeakOrder}
use Rattle.std.specs.List.Sorted.{IsPermutation, IsSortedBy}
use Rattle.std.proofs.lemmas.List.{map_more}
use Rattle.std.proofs.lemmas.List.Sorted.{IsPermutation-map, sorted_far}
use Rattle.isle_core.specs.declared.rule_sets.Binding.{Binding}
use Rattle.isle_core.specs.declared.rule_sets.FlatRule.{FlatRule}
use Rattle.isle_core.specs.Path.{Path, paths_of}
use Rattle.isle_blocks.specs.declared.arrangement.Arranged.{Arranged}
use Rattle.isle_blocks.specs.declared.ways.Parted.{Parted}
use Rattle.isle_blocks.specs.Arranged.{rules_of, IsArranged, AreEachArranged, AreArranged, arranged_way}
use Rattle.isle_blocks.specs.Order.{is_above, Falls}
use Rattle.isle_blocks.specs.Tree.{Way}
use Rattle.isle_blocks.specs.Turns.{TurnsRise}
use Rattle.isle_blocks.specs.Ways.{parted_way, way_of}
use Rattle.isle_blocks.proofs.LawOrder.{above_order, falls_from}
use Rattle.isle_blocks.proofs.Reorders.{permutation_reorders, reorder_all}

each_push : (turns : List ℕ) (vs ws : List Way) (v w : Way) → AreEachArranged turns vs ws → IsArranged turns v w → AreEachArranged turns (vs ++ v ∷ []) (ws ++ w ∷ [])
each_push turns [] [] v w h k = (k, tt)
each_push turns (x ∷ vs) (y ∷ ws) v w h k = (h.0, each_push turns vs ws v w h.1 k)
each_push turns [] (y ∷ ws) v w h k = absurd h
each_push turns (x ∷ vs) [] v w h k = absurd h

map_push : {A B : Type 0} (f : A → B) (xs : List A) (y : A) → map f (xs ++ y ∷ []) ≡ map f xs ++ f y ∷ []
map_push f [] y = refl
map_push f (x ∷ xs) y = ap (λ zs. f x ∷ zs) (map_push f xs y)

-- one way more of the code's
pub arranged_more : (turns : List ℕ) (ws : List Parted) (i : ℕ) (w d : Parted) (all : List Arranged) (a : Arranged) → i < length ws → w ≡ get_or ws i d → IsArranged turns (parted_way w) (arranged_way a)
    → AreEachArranged turns (map parted_way (take i ws)) (map arranged_way all) → AreEachArranged turns (map parted_way (take (i + 1) ws)) (map arranged_way (all ++ a ∷ []))
arranged_more turns ws i w d all a lt is one h =
    subst (λ vs. AreEachArranged turns vs (map arranged_way (all ++ a ∷ []))) (sym (map_more parted_way ws i d lt ∙ ap (λ (v : Parted). map parted_way (take i ws) ++ parted_way v ∷ []) (sym is)))
    (subst (AreEachArranged turns (map parted_way (take i ws) ++ parted_way w ∷ [])) (sym (map_push arranged_way all a)) (each_push turns (map parted_way (take i ws)) (map arranged_way all) (parted_way w) (arranged_way a) h one))

-- ---- sorted

-- the first has the higher priority
abbrev pub arranged_above : Arranged → Arranged → Bool
arranged_above a b = is_above a.rule.now b.rule.now

arranged_order : IsStrictWeakOrder arranged_above
arranged_order = record { one_way = λ a b. above_order.one_way a.rule.now b.rule.now; chain = λ a b c. above_order.chain a.rule.now b.rule.now c.rule.now }

rules_shown : (xs : List Arranged) → rules_of (map arranged_way xs) ≡ map (λ (a : Arranged). a.rule.now) xs
rules_shown [] = refl
rules_shown (x ∷ xs) = ap (λ fs. x.rule.now ∷ fs) (rules_shown xs)

pub sorted_falls : (xs : List Arranged) → IsSortedBy arranged_above xs → Falls (rules_of (map arranged_way xs))
sorted_falls xs up = subst Falls (sym (rules_shown xs)) (falls_from (λ (a : Arranged). a.rule.now) xs (sorted_far arranged_above arranged_order xs up))

-- ---- of the rules of a set

same_rules : (turns : List ℕ) (several : Bool) (ps : List Path) (fs : List FlatRule) (ws : List Way) → AreEachArranged turns (map (way_of several ps) fs) ws → rules_of ws ≡ fs
same_rules turns several ps [] [] h = refl
same_rules turns several ps (f ∷ fs) (w ∷ ws) h = ap (λ g. g ∷ rules_of ws) h.0.rule ∙ ap (λ gs. f ∷ gs) (same_rules turns several ps fs ws h.1)
same_rules turns several ps [] (w ∷ ws) h = absurd h
same_rules turns several ps (f ∷ fs) [] h = absurd h

each_own : (turns : List ℕ) (several : Bool) (ps : List Path) (fs : List FlatRule) (ws : List Way) → AreEachArranged turns (map (way_of several ps) fs) ws → AllByRecursion (λ (w : Way). IsArranged turns (way_of several ps w.rule) w) ws
each_own turns several ps [] [] h = tt
each_own turns several ps (f ∷ fs) (w ∷ ws) h = (subst (λ g. IsArranged turns (way_of several ps g) w) (sym h.0.rule) h.0, each_own turns several ps fs ws h.1)
each_own turns several ps [] (w ∷ ws) h = absurd h
each_own turns several ps (f ∷ fs) [] h = absurd h

-- arranged one by one, and then sorted
pub are_arranged : (several : Bool) (bs : List Binding) (turns : List ℕ) (fs : List FlatRule) (ws : List Parted) (before after : List Arranged) → TurnsRise bs turns → map parted_way ws ≡ map (way_of several (paths_of bs)) fs
    → AreEachArranged turns (map parted_way ws) (map arranged_way before) → IsPermutation before after → Falls (rules_of (map arranged_way after)) → AreArranged several bs fs (map arranged_way after)
are_arranged several bs turns fs ws before after rise named each moved falls =
    let vs = map arranged_way before in
    let us = map arranged_way after in
    let k = subst (λ xs. AreEachArranged turns xs vs) named each in
    let order = IsPermutation-map arranged_way before after moved in
    record {
      turns = turns;
      rise = rise;
      order = subst (λ gs. IsPermutation gs (rules_of us)) (same_rules turns several (paths_of bs) fs vs k) (IsPermutation-map (λ (w : Way). w.rule) vs us order);
      falls = falls;
      each = reorder_all (λ (w : Way). IsArranged turns (way_of several (paths_of bs) w.rule) w) vs us (permutation_reorders vs us order) (each_own turns several (paths_of bs) fs vs k);
    }
