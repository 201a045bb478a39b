-- The map of the fields of variants, filled from the last to the first.
use Rattle.std.proofs.Common.{◌≡◌, ℕ, ◌+◌, ◌<◌, List, ◌∷◌, length, drop, get_or, Bool, true, false, cond, Option, Some, sym, ap, ◌∙◌}
use Rattle.std.specs.Prelude.{option_map}
use Rattle.std.specs.Option.{option_copied}
use Rattle.std.specs.List.{find}
use Rattle.std.specs.Str.{bytes_eq}
use Rattle.std.specs.Ordering.{nat_cmp}
use Rattle.std.specs.Cmp.Lexicographic.{slice_cmp, nat_list_eq_equiv}
use Rattle.std.specs.BTreeMap.{BTreeMap, get_by, UpdatesBy}
use Rattle.std.proofs.lemmas.List.{drop_more}
use Rattle.std.proofs.lemmas.Map.Text.{btree_map_updates_str}
use denote.Ref.{Bor}
use Rattle.isle_core.specs.declared.types.Fields.{Fields}
use Rattle.isle_core.specs.declared.types.TypeEnv.{TypeEnv}
use Rattle.isle_core.specs.declared.types.Variant.{Variant}
use Rattle.isle_core.specs.Terms.{sym_text, symbol_text}
use Rattle.isle_run_inputs.specs.VariantFields.{first_fields, FindsFields}

-- the fields of the variant at the place, or of a later one
picked : (here : Bool) (v : Variant) (shown : Bor Fields) (old : Option (Bor Fields)) (rest : Option Variant) → shown.now ≡ v.fields → option_copied old ≡ option_map (λ (x : Variant). x.fields) rest
    → option_copied (cond here (Some shown) old) ≡ option_map (λ (x : Variant). x.fields) (cond here (Some v) rest)
picked true v shown old rest is were = ap Some is
picked false v shown old rest is were = were

-- a variant more, before those that are there
pub variant_more : (types : TypeEnv) (variants : List Variant) (i : ℕ) (v d : Variant) (key : Bor (List ℕ)) (shown : Bor Fields) (old new : BTreeMap (Bor (List ℕ)) (Bor Fields)) → i < length variants → v ≡ get_or variants i d
    → key.now ≡ symbol_text types v.name → shown.now ≡ v.fields → FindsFields types (drop (i + 1) variants) old
    → UpdatesBy (λ (x y : Bor (List ℕ)). slice_cmp nat_cmp x.now y.now) (λ (k : Bor (List ℕ)). slice_cmp nat_cmp key.now k.now) old new (Some shown)
    → FindsFields types (drop i variants) new
variant_more types variants i v d key shown old new lt is named fielded were updates = record {
  finds = λ env e name.
      ap option_copied (btree_map_updates_str key.now old new (Some shown) updates name)
      ∙ picked (bytes_eq key.now name) v shown (get_by (λ (k : Bor (List ℕ)). slice_cmp nat_cmp name k.now) old) (find (λ (x : Variant). bytes_eq name (sym_text env x.name)) (drop (i + 1) variants)) fielded (were.finds env e name)
      ∙ ap (λ b. option_map (λ (x : Variant). x.fields) (cond b (Some v) (find (λ (x : Variant). bytes_eq name (sym_text env x.name)) (drop (i + 1) variants))))
      (sym (nat_list_eq_equiv.symm name key.now) ∙ ap (bytes_eq name) (named ∙ ap (λ ts. symbol_text ts v.name) (sym e)))
      ∙ ap (λ xs. first_fields env xs name) (sym (drop_more variants i d lt ∙ ap (λ x. x ∷ drop (i + 1) variants) (sym is)));
}
