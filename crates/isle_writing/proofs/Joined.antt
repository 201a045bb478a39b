-- Lists of definitions that are put together.
use Rattle.std.proofs.Common.{◌≡◌, List, [], ◌∷◌, ◌++◌, flat_map, Bool, true, false, refl}
use Rattle.std.specs.Prelude.{◌||◌}
use Rattle.isle_ast.specs.Tree.{Def}
use Rattle.isle_writing.specs.LaidDefs.{LaidDef, laid_defs}
use Rattle.isle_writing.specs.Writable.{AreWritable}
use Rattle.isle_writing.specs.Spelt.{declares_flag, declare_flag}

-- ---- they can be written

pub writable_joined : (ds es : List Def) → AreWritable ds → AreWritable es → AreWritable (ds ++ es)
writable_joined [] es h k = k
writable_joined (d ∷ ds) es h k = (h.0, writable_joined ds es h.1 k)

pub writable_each : {X : Type 0} (f : X → List Def) → ((x : X) → AreWritable (f x)) → (xs : List X) → AreWritable (flat_map f xs)
writable_each f h [] = tt
writable_each f h (x ∷ xs) = writable_joined (f x) (flat_map f xs) (h x) (writable_each f h xs)

pub laid_writable_joined : (ls ms : List LaidDef) → AreWritable (laid_defs ls) → AreWritable (laid_defs ms) → AreWritable (laid_defs (ls ++ ms))
laid_writable_joined [] ms h k = k
laid_writable_joined (l ∷ ls) ms h k = (h.0, laid_writable_joined ls ms h.1 k)

pub laid_writable_each : {X : Type 0} (f : X → List LaidDef) → ((x : X) → AreWritable (laid_defs (f x))) → (xs : List X) → AreWritable (laid_defs (flat_map f xs))
laid_writable_each f h [] = tt
laid_writable_each f h (x ∷ xs) = laid_writable_joined (f x) (flat_map f xs) (h x) (laid_writable_each f h xs)

-- ---- no declared term has the name of a flag

neither : (a b : Bool) → (a || b) ≡ false → (c : Bool) → c ≡ false → (a || c) ≡ false
neither true b h c k = absurd cc
neither false b h c k = k

later : (a b : Bool) → (a || b) ≡ false → b ≡ false
later true b h = absurd cc
later false b h = h

pub no_flag_joined : (ds es : List Def) → declare_flag ds ≡ false → declare_flag es ≡ false → declare_flag (ds ++ es) ≡ false
no_flag_joined [] es h k = k
no_flag_joined (d ∷ ds) es h k =
    neither (declares_flag d) (declare_flag ds) h (declare_flag (ds ++ es)) (no_flag_joined ds es (later (declares_flag d) (declare_flag ds) h) k)

pub no_flag_each : {X : Type 0} (f : X → List Def) → ((x : X) → declare_flag (f x) ≡ false) → (xs : List X) → declare_flag (flat_map f xs) ≡ false
no_flag_each f h [] = refl
no_flag_each f h (x ∷ xs) = no_flag_joined (f x) (flat_map f xs) (h x) (no_flag_each f h xs)

pub laid_no_flag_joined : (ls ms : List LaidDef) → declare_flag (laid_defs ls) ≡ false → declare_flag (laid_defs ms) ≡ false
    → declare_flag (laid_defs (ls ++ ms)) ≡ false
laid_no_flag_joined [] ms h k = k
laid_no_flag_joined (l ∷ ls) ms h k =
    let first : Bool = declares_flag l.def in
    let rest : Bool = declare_flag (laid_defs ls) in
    neither first rest h (declare_flag (laid_defs (ls ++ ms))) (laid_no_flag_joined ls ms (later first rest h) k)

pub laid_no_flag_each : {X : Type 0} (f : X → List LaidDef) → ((x : X) → declare_flag (laid_defs (f x)) ≡ false) → (xs : List X)
    → declare_flag (laid_defs (flat_map f xs)) ≡ false
laid_no_flag_each f h [] = refl
laid_no_flag_each f h (x ∷ xs) = laid_no_flag_joined (f x) (flat_map f xs) (h x) (laid_no_flag_each f h xs)
