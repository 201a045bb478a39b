-- How many tests are left of ways.
use Rattle.std.proofs.Common.{◌≡◌, ℕ, suc, zero, ◌+◌, ◌<◌, ◌≤◌, List, [], ◌∷◌, ◌++◌, length, take, drop, get_or, map, sym, ap, ◌∙◌, subst, arith}
use Rattle.std.proofs.lemmas.List.{map_more}
use Rattle.isle_core.specs.declared.BindingId.{BindingId}
use Rattle.isle_core.specs.declared.rule_sets.Constraint.{Constraint}
use Rattle.isle_blocks.specs.declared.ways.Way.{Way as CodeWay}
use Rattle.isle_blocks.specs.Gathered.{AreShort}
use Rattle.isle_blocks.specs.Tree.{Way}
use Rattle.isle_blocks.specs.TreeSteps.{AreLeftShort}
use Rattle.isle_blocks.specs.Ways.{way}

pub short_take : (depth n : ℕ) (ws : List Way) → AreShort depth ws → AreShort depth (take n ws)
short_take depth zero ws h = tt
short_take depth (suc n) [] h = tt
short_take depth (suc n) (w ∷ ws) h = (h.0, short_take depth n ws h.1)

pub short_drop : (depth n : ℕ) (ws : List Way) → AreShort depth ws → AreShort depth (drop n ws)
short_drop depth zero ws h = h
short_drop depth (suc n) [] h = tt
short_drop depth (suc n) (w ∷ ws) h = short_drop depth n ws h.1

pub short_within : (depth more : ℕ) (ws : List Way) → depth ≤ more → AreShort depth ws → AreShort more ws
short_within depth more [] le h = tt
short_within depth more (w ∷ ws) le h = (omega (arith, le, h.0), short_within depth more ws le h.1)

pub short_push : (depth : ℕ) (ws : List Way) (w : Way) → AreShort depth ws → length w.early ≤ depth → AreShort depth (ws ++ w ∷ [])
short_push depth [] w h le = (le, tt)
short_push depth (v ∷ vs) w h le = (h.0, short_push depth vs w h.1 le)

-- a way with a test says that there is depth
pub some_depth : (depth : ℕ) (ws vs : List Way) (w : Way) (c : BindingId × Constraint) (cs : List (BindingId × Constraint)) → AreShort depth ws → ws ≡ w ∷ vs → w.early ≡ c ∷ cs → 0 < depth
some_depth depth ws vs w c cs h is early =
    let le : length w.early ≤ depth = (subst (AreShort depth) is h).0 in
    let some : length w.early ≡ suc (length cs) = ap length early in
    omega (arith, le, some)

-- ways that are short are short once a test of each is made, with one test less
pub left_short : (depth less : ℕ) (ws : List Way) → depth ≡ suc less → AreShort depth ws → AreLeftShort less ws
left_short depth less [] is h = tt
left_short depth less (w ∷ ws) is h = (omega (arith, is, h.0), left_short depth less ws is h.1)

-- one way more of the code's
pub deeper : (ws : List CodeWay) (i : ℕ) (w d : CodeWay) (depth more : ℕ) → i < length ws → w ≡ get_or ws i d → depth ≤ more → length w.early.now ≤ more → AreShort depth (map way (take i ws)) → AreShort more (map way (take (i + 1) ws))
deeper ws i w d depth more lt is le long h =
    subst (AreShort more) (sym (map_more way ws i d lt ∙ ap (λ (v : CodeWay). map way (take i ws) ++ way v ∷ []) (sym is))) (short_push more (map way (take i ws)) (way w) (short_within depth more (map way (take i ws)) le h) long)
