-- Names of which none stands before itself, as one more is added, and as they are gone through.
use Rattle.std.proofs.Common.{◌≡◌, ℕ, ◌+◌, ◌<◌, ◌⊎◌, inl, inr, List, [], ◌∷◌, ◌++◌, length, get_or, take, None, sym, ap, ◌∙◌, arith, subst}
use Rattle.std.proofs.lemmas.List.{length-map, length-append, map_more, take-map, get_or-map, take-append-le, get_or_append_left, length-take-le}
use Rattle.std.proofs.Math.Seq.{take-append_seam, get_or-append_seam}
use denote.Ref.{Bor}
use Rattle.isle_declarations.specs.Symbols.{index_of}
use Rattle.isle_declarations.specs.LookedUp.{texts}
use Rattle.isle_declarations.specs.Slots.{Overflow, Places, PutsName, AreDistinct}

-- ---- one more

-- none of those that were there stands before itself
before_old : (names : List (List ℕ)) (new : List ℕ) (i : ℕ) → i < length names → AreDistinct names
    → index_of (take i (names ++ new ∷ [])) (get_or (names ++ new ∷ []) i []) ≡ None
before_old names new i within distinct =
    ap (λ ns. index_of ns (get_or (names ++ new ∷ []) i [])) (take-append-le i names (new ∷ []) (omega arith))
    ∙ ap (index_of (take i names)) (get_or_append_left names (new ∷ []) [] i within) ∙ distinct.first i within

-- nor does the new one
before_new : (names : List (List ℕ)) (new : List ℕ) (i : ℕ) → length names ≡ i → index_of names new ≡ None
    → index_of (take i (names ++ new ∷ [])) (get_or (names ++ new ∷ []) i []) ≡ None
before_new names new i is absent =
    ap (λ n. index_of (take n (names ++ new ∷ [])) (get_or (names ++ new ∷ []) n [])) (sym is)
    ∙ ap (λ ns. index_of ns (get_or (names ++ new ∷ []) (length names) [])) (take-append_seam names (new ∷ []))
    ∙ ap (index_of names) (get_or-append_seam names new [] []) ∙ absent

-- so none does
before_each : (names : List (List ℕ)) (new : List ℕ) (i : ℕ) → AreDistinct names → index_of names new ≡ None
    → (i < length names) ⊎ (length names ≡ i) → index_of (take i (names ++ new ∷ [])) (get_or (names ++ new ∷ []) i []) ≡ None
before_each names new i distinct absent (inl within) = before_old names new i within distinct
before_each names new i distinct absent (inr is) = before_new names new i is absent

-- a place is one of those that were there, or the last
which : (i n m : ℕ) → i < m → m ≡ n + 1 → (i < n) ⊎ (n ≡ i)
which i n m within is = grind arith

-- a new name beside others
pub distinct_more : (names : List (List ℕ)) (new : List ℕ) → AreDistinct names → index_of names new ≡ None → AreDistinct (names ++ new ∷ [])
distinct_more names new distinct absent = record {
  first = λ i within. before_each names new i distinct absent (which i (length names) (length (names ++ new ∷ [])) within (length-append names (new ∷ [])));
}

-- no names
pub distinct_none : AreDistinct []
distinct_none = record { first = λ i within. absurd (omega arith) }

-- ---- the same of code's names

-- the next of the names is placed after those before it
pub placed_next : (names : List (Bor (List ℕ))) (i : ℕ) (d : Bor (List ℕ)) (slots slots' : List ℕ) (overflow overflow' : Overflow)
    → AreDistinct (texts names) → i < length names
    → PutsName i (get_or names i d).now slots overflow slots' overflow'
    → Places (texts (take i names)) slots overflow → Places (texts (take (i + 1) names)) slots' overflow'
placed_next names i d slots slots' overflow overflow' distinct within put were =
    let now : Bor (List ℕ) → List ℕ = λ (n : Bor (List ℕ)). n.now in
    let long : i < length (texts names) = rw (length-map names now) within in
    let before : take i (texts names) ≡ texts (take i names) = take-map now i names in
    let absent : index_of (texts (take i names)) (get_or names i d).now ≡ None =
    ap (λ ns. index_of ns (get_or names i d).now) (sym before)
    ∙ ap (index_of (take i (texts names))) (sym (get_or-map now names i d [] within)) ∙ distinct.first i long in
    let counted : length (texts (take i names)) ≡ i = length-map (take i names) now ∙ length-take-le i names (omega arith) in
    let more : texts (take (i + 1) names) ≡ texts (take i names) ++ (get_or names i d).now ∷ [] = map_more now names i d within in
    subst (λ ns. Places ns slots' overflow') (sym more) (put (texts (take i names)) counted absent were)
