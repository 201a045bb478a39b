-- Rows and formats, one after another.
use Rattle.std.proofs.Common.{◌≡◌, ℕ, ◌+◌, ◌<◌, List, [], ◌∷◌, ◌++◌, length, drop, get_or, append-nil, append_assoc, Bool, true, false, cond, refl, sym, ap, ◌∙◌, arith, Option, Some, None}
use Rattle.std.specs.Prelude.{option_map}
use Rattle.std.specs.Str.{bytes_eq}
use Rattle.std.specs.Ordering.{nat_cmp}
use Rattle.std.specs.Cmp.Lexicographic.{slice_cmp, nat_list_eq_equiv}
use Rattle.std.specs.BTreeMap.{BTreeMap, UpdatesBy}
use Rattle.std.proofs.lemmas.List.{drop_more}
use Rattle.std.proofs.lemmas.Map.Text.{btree_map_updates_str}
use denote.Ref.{Bor}
use Rattle.isle_meta.specs.declared.clif.InstructionFormat.{InstructionFormat}
use Rattle.isle_meta.specs.declared.clif.Instruction.{Instruction}
use Rattle.isle_tables.specs.declared.item.InstRow.{InstRow}
use Rattle.isle_tables.specs.FormatNames.{at_name}
use Rattle.isle_tables.specs.Resolved.{gathered, first_place, at_format, with_row, resolved, lost_at, first_lost}

-- ---- items of one kind

-- an item more
pub gathered_more : {A B : Type 0} (f : A → List B) (x : A) (xs : List A) (done new whole : List B) → new ≡ done ++ f x → done ++ gathered f (x ∷ xs) ≡ whole → new ++ gathered f xs ≡ whole
gathered_more f x xs done new whole e h = ap (λ z. z ++ gathered f xs) e ∙ append_assoc done (f x) (gathered f xs) ∙ h

-- ---- the map of formats

-- the place of a name among formats from the i-th on
abbrev pub place_from : ℕ → List InstructionFormat → List ℕ → Option ℕ
place_from i fs name = option_map (λ (n : ℕ). n + i) (first_place (drop i fs) name)

pub place_all : (fs : List InstructionFormat) (name : List ℕ) → place_from 0 fs name ≡ first_place fs name
place_all fs name = by (first_place fs name)
  where
    by : (o : Option ℕ) → option_map (λ (n : ℕ). n + 0) o ≡ o
    by None = refl
    by (Some n) = ap (λ (m : ℕ). Some m) (omega arith)

later : (i : ℕ) (o : Option ℕ) → option_map (λ (n : ℕ). n + (i + 1)) o ≡ option_map (λ (n : ℕ). n + i) (option_map (λ (n : ℕ). n + 1) o)
later i None = refl
later i (Some n) = ap (λ (m : ℕ). Some m) (omega arith)

-- a format more, before those that are there
pub places_more : (fs : List InstructionFormat) (i : ℕ) (x d : InstructionFormat) (key : Bor (List ℕ)) (old new : BTreeMap (Bor (List ℕ)) ℕ) → i < length fs → x ≡ get_or fs i d → key.now ≡ x.name
    → ((name : List ℕ) → at_name old name ≡ place_from (i + 1) fs name) → UpdatesBy (λ (x y : Bor (List ℕ)). slice_cmp nat_cmp x.now y.now) (λ (k : Bor (List ℕ)). slice_cmp nat_cmp key.now k.now) old new (Some i)
    → (name : List ℕ) → at_name new name ≡ place_from i fs name
places_more fs i x d key old new lt is named were updates name =
    btree_map_updates_str key.now old new (Some i) updates name ∙ by (bytes_eq key.now name) refl
    ∙ ap (λ xs. option_map (λ (n : ℕ). n + i) (first_place xs name)) (sym (drop_more fs i d lt ∙ ap (λ y. y ∷ drop (i + 1) fs) (sym is)))
  where
    rest : List InstructionFormat
    rest = drop (i + 1) fs

    asked : bytes_eq name x.name ≡ bytes_eq key.now name
    asked = nat_list_eq_equiv.symm name x.name ∙ ap (λ k. bytes_eq k name) (sym named)

    by : (here : Bool) → bytes_eq key.now name ≡ here → cond here (Some i) (at_name old name) ≡ option_map (λ (n : ℕ). n + i) (first_place (x ∷ rest) name)
    by true e = ap (λ (m : ℕ). Some m) {y = 0 + i} (omega arith) ∙ ap (λ b. option_map (λ (n : ℕ). n + i) (cond b (Some 0) (option_map (λ (n : ℕ). n + 1) (first_place rest name)))) (sym (asked ∙ e))
    by false e = were name ∙ later i (first_place rest name) ∙ ap (λ b. option_map (λ (n : ℕ). n + i) (cond b (Some 0) (option_map (λ (n : ℕ). n + 1) (first_place rest name)))) (sym (asked ∙ e))

-- ---- instructions

-- instructions in front of others, if these are there
abbrev pub in_front_of : List Instruction → Option (List Instruction) → Option (List Instruction)
in_front_of xs = option_map (λ (ys : List Instruction). xs ++ ys)

one_more : (xs ys : List Instruction) (row : InstRow) (place : ℕ) (o : Option (List Instruction)) → ys ≡ xs ++ at_format row place ∷ [] → in_front_of ys o ≡ in_front_of xs (with_row row (Some place) o)
one_more xs ys row place None e = refl
one_more xs ys row place (Some zs) e = ap (λ (vs : List Instruction). Some vs) (ap (λ vs. vs ++ zs) e ∙ append_assoc xs (at_format row place ∷ []) zs)

-- a row more that names a format
pub resolved_more : (fs : List InstructionFormat) (row : InstRow) (rows : List InstRow) (place : ℕ) (xs ys : List Instruction) (whole : Option (List Instruction)) → first_place fs row.format ≡ Some place → ys ≡ xs ++ at_format row place ∷ []
    → in_front_of xs (resolved fs (row ∷ rows)) ≡ whole → in_front_of ys (resolved fs rows) ≡ whole
resolved_more fs row rows place xs ys whole p e h = one_more xs ys row place (resolved fs rows) e ∙ ap (λ o. in_front_of xs (with_row row o (resolved fs rows))) (sym p) ∙ h

-- no row more
pub resolved_end : (fs : List InstructionFormat) (xs : List Instruction) (whole : Option (List Instruction)) → in_front_of xs (resolved fs []) ≡ whole → whole ≡ Some xs
resolved_end fs xs whole h = sym h ∙ ap (λ (vs : List Instruction). Some vs) (append-nil xs)

pub lost_more : (fs : List InstructionFormat) (row : InstRow) (rows : List InstRow) (place : ℕ) (whole : Option ℕ) → first_place fs row.format ≡ Some place → first_lost fs (row ∷ rows) ≡ whole → first_lost fs rows ≡ whole
lost_more fs row rows place whole p h = ap (λ o. lost_at row o (first_lost fs rows)) (sym p) ∙ h

-- a row that names no format
pub lost_here : (fs : List InstructionFormat) (row : InstRow) (rows : List InstRow) (whole : Option ℕ) → first_place fs row.format ≡ None → first_lost fs (row ∷ rows) ≡ whole → whole ≡ Some row.format_at
lost_here fs row rows whole p h = sym h ∙ ap (λ o. lost_at row o (first_lost fs rows)) p
