-- A place more in the map of names.
use Rattle.std.proofs.Common.{◌≡◌, ℕ, ◌+◌, ◌<◌, List, [], ◌∷◌, fold, length, drop, get_or, Bool, true, false, cond, Option, Some, refl, sym, ap, ◌∙◌}
use Rattle.std.specs.Prelude.{option_map, if◌then◌else◌}
use Rattle.std.specs.Str.{bytes_eq}
use Rattle.std.specs.BTreeMap.{BTreeMap, get_by, UpdatesBy}
use Rattle.std.specs.Cmp.Lexicographic.{slice_cmp, nat_list_eq_equiv}
use Rattle.std.specs.Ordering.{nat_cmp}
use Rattle.std.proofs.lemmas.List.{drop_more}
use Rattle.std.proofs.lemmas.Map.Text.{btree_map_updates_str}
use denote.Ref.{Bor}
use Rattle.isle_printer.proofs.Bytes.{same_is, same_bytes_sound}
use Rattle.isle_interpreter.specs.Agreed.{Known, joined, noted, noted_place, agreed_at, at_name}
use Rattle.isle_places.specs.Places.{Place, names_at}
use Rattle.isle_places.specs.ToldViews.{placed}
use Rattle.isle_tree.specs.declared.tree.Operand.{Operand}
use Rattle.isle_tree.specs.declared.tree.Operand.TheVariants as operand

pub note_more : (name ty : List ℕ) (key : Bor (List ℕ)) (whole : Option (Bor (List ℕ))) (old new : BTreeMap (Bor (List ℕ)) (Option (Bor (List ℕ)))) → key.now ≡ name → option_map (λ (t : Bor (List ℕ)). t.now) whole ≡ joined (at_name old name) ty
    → UpdatesBy (λ (x y : Bor (List ℕ)). slice_cmp nat_cmp x.now y.now) (λ (k : Bor (List ℕ)). slice_cmp nat_cmp key.now k.now) old new (Some whole) → (other : List ℕ) → at_name new other ≡ noted other (at_name old other) (name, ty)
note_more name ty key whole old new is made updates other =
    ap (option_map (option_map (λ (t : Bor (List ℕ)). t.now))) (btree_map_updates_str key.now old new (Some whole) updates other)
    ∙ ap (λ k. option_map (option_map (λ (t : Bor (List ℕ)). t.now)) (cond (bytes_eq k other) (Some whole) (get_by (λ (k : Bor (List ℕ)). slice_cmp nat_cmp other k.now) old))) is
    ∙ by (bytes_eq name other) refl
    ∙ ap (λ b. if b then Some (joined (at_name old other) ty) else at_name old other) (nat_list_eq_equiv.symm name other)
  where
    by : (b : Bool) → bytes_eq name other ≡ b
        → option_map (option_map (λ (t : Bor (List ℕ)). t.now)) (cond b (Some whole) (get_by (λ (k : Bor (List ℕ)). slice_cmp nat_cmp other k.now) old)) ≡ (if b then Some (joined (at_name old other) ty) else at_name old other)
    by true e = ap Some (made ∙ ap (λ n. joined (at_name old n) ty) (same_bytes_sound name other (sym (same_is name other) ∙ e)))
    by false e = refl

-- one of the places that are left
pub note_step : (places : List (Bor Operand × Bor (List ℕ))) (i : ℕ) (x d : Bor Operand × Bor (List ℕ)) (old new : BTreeMap (Bor (List ℕ)) (Option (Bor (List ℕ)))) → i < length places → x ≡ get_or places i d
    → ((other : List ℕ) → at_name new other ≡ noted_place other (at_name old other) (x.0.now, x.1.now)) → ((name : List ℕ) → fold (noted_place name) (at_name old name) (placed (drop i places)) ≡ agreed_at name (placed places))
    → (name : List ℕ) → fold (noted_place name) (at_name new name) (placed (drop (i + 1) places)) ≡ agreed_at name (placed places)
note_step places i x d old new lt is more before name =
    ap (λ k. fold (noted_place name) k (placed (drop (i + 1) places))) (more name)
    ∙ ap (λ xs. fold (noted_place name) (at_name old name) (placed xs)) (sym (drop_more places i d lt ∙ ap (λ y. y ∷ drop (i + 1) places) (sym is)))
    ∙ before name

-- of all places, as of the names that stand there
pub agreed_named : (name : List ℕ) (known : Known) (ps : List Place) → fold (noted_place name) known ps ≡ fold (noted name) known (names_at ps)
agreed_named name known [] = refl
agreed_named name known ((operand.Name other, ty) ∷ ps) = agreed_named name (noted name known (other, ty)) ps
agreed_named name known ((operand.Local n, ty) ∷ ps) = agreed_named name known ps
agreed_named name known ((operand.Arg n, ty) ∷ ps) = agreed_named name known ps
agreed_named name known ((operand.Bool b, ty) ∷ ps) = agreed_named name known ps
agreed_named name known ((operand.Int of z, ty) ∷ ps) = agreed_named name known ps
agreed_named name known ((operand.Raw z, ty) ∷ ps) = agreed_named name known ps
