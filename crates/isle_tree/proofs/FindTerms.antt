-- The map of the functions of terms, filled from the last to the first.
use Rattle.std.proofs.Common.{◌≡◌, ℕ, ◌+◌, ◌<◌, List, ◌∷◌, length, drop, map, get_or, Bool, true, false, cond, Some, refl, sym, ap, ◌∙◌}
use Rattle.std.specs.Prelude.{option_map, if◌then◌else◌}
use Rattle.std.specs.Str.{bytes_eq}
use Rattle.std.specs.Ordering.{nat_cmp}
use Rattle.std.specs.Cmp.Lexicographic.{slice_cmp, nat_list_eq_equiv}
use Rattle.std.specs.BTreeMap.{BTreeMap, get_by, UpdatesBy}
use Rattle.std.proofs.lemmas.List.{drop_more}
use Rattle.std.proofs.lemmas.Map.Text.{btree_map_updates_str}
use denote.Ref.{Bor}
use Rattle.isle_printer.specs.Bytes.{same_bytes}
use Rattle.isle_printer.proofs.Bytes.{same_is}
use Rattle.isle_tree.specs.declared.tree.Function.{Function as CodeFunction}
use Rattle.isle_tree.specs.Run.{function_of}
use Rattle.isle_tree.specs.Views.{function}
use Rattle.isle_tree.specs.Terms.{FindsTerms}

-- the two tests of names agree, whichever stands first
turned : (v w : List ℕ) → bytes_eq v w ≡ same_bytes w v
turned v w = nat_list_eq_equiv.symm v w ∙ same_is w v

-- one function more, before those that are there
pub terms_more : (fns : List CodeFunction) (i : ℕ) (f d : CodeFunction) (item : Bor CodeFunction) (key : Bor (List ℕ)) (old new : BTreeMap (Bor (List ℕ)) (Bor CodeFunction)) → i < length fns → f ≡ get_or fns i d → item.now ≡ f → key.now ≡ f.term
    → FindsTerms (drop (i + 1) fns) old → UpdatesBy (λ (x y : Bor (List ℕ)). slice_cmp nat_cmp x.now y.now) (λ (k : Bor (List ℕ)). slice_cmp nat_cmp key.now k.now) old new (Some item)
    → FindsTerms (drop i fns) new
terms_more fns i f d item key old new lt is shown named were updates = record {
  finds = λ term.
      ap (option_map (λ (x : Bor CodeFunction). function x.now)) (btree_map_updates_str key.now old new (Some item) updates term)
      ∙ placed term (bytes_eq key.now term) refl
      ∙ ap (λ xs. function_of term (map function xs)) (sym (drop_more fns i d lt ∙ ap (λ x. x ∷ drop (i + 1) fns) (sym is)));
}
  where
    asked : (term : List ℕ) → same_bytes term f.term ≡ bytes_eq key.now term
    asked term = ap (same_bytes term) (sym named) ∙ sym (turned key.now term)

    placed : (term : List ℕ) (here : Bool) → bytes_eq key.now term ≡ here
        → option_map (λ (x : Bor CodeFunction). function x.now) (cond here (Some item) (get_by (λ (k : Bor (List ℕ)). slice_cmp nat_cmp term k.now) old)) ≡ function_of term (map function (f ∷ drop (i + 1) fns))
    placed term true e = ap (λ x. Some (function x)) shown ∙ ap (λ b. if b then Some (function f) else function_of term (map function (drop (i + 1) fns))) (sym (asked term ∙ e))
    placed term false e = were.finds term ∙ ap (λ b. if b then Some (function f) else function_of term (map function (drop (i + 1) fns))) (sym (asked term ∙ e))
