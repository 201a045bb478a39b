-- Values as types ask for them.
use Rattle.std.proofs.Common.{◌≡◌, ℕ, ◌+◌, ◌<◌, List, [], ◌∷◌, length, drop, get_or, Bool, false, sym, ap, ◌∙◌, subst}
use Rattle.std.specs.Prelude.{◌↔◌, IsTrue, IfOk}
use Rattle.std.specs.declared.result.Result.{Result}
use Rattle.std.proofs.lemmas.List.{drop_more}
use Rattle.std.specs.Fmt.{decimal}
use Rattle.isle_core.specs.declared.values.Value.{Value as CodeValue}
use Rattle.isle_core.specs.declared.values.Value.TheVariants as code
use Rattle.isle_core.specs.ValueViews.{value}
use Rattle.isle_outcomes.specs.Fields.{fields}
use Rattle.isle_outcomes.proofs.SeesValues.{value-variant, value-struct}
use Rattle.isle_printer.specs.Bytes.{same_bytes}
use Rattle.isle_tree.specs.declared.tree.TypeItem.{TypeItem}
use Rattle.isle_places.specs.DeclaredTypes.{Asked, These, tuple_fields, variant_asked, struct_asked}
use Rattle.isle_interpreter.specs.Named.{IsNamed, AreAsked}

-- whether a variant is as its type asks
pub variant_as_asked : {E : Type 0} (types : List TypeItem) (name ty variant : List ℕ) (xs ys : List (List ℕ × CodeValue)) (g : CodeValue) (a : Asked) (r : Result Bool E) → g ≡ code.Variant ty variant xs → a ≡ variant_asked types name ty variant → ys ≡ xs
    → IfOk r (λ b. IsTrue b ↔ AreAsked types a (fields ys)) → IfOk r (λ b. IsTrue b ↔ IsNamed types name (value g))
variant_as_asked types name ty variant xs ys g a r is asks same h =
    subst (λ v. IfOk r (λ b. IsTrue b ↔ IsNamed types name v)) (sym (ap value is ∙ value-variant ty variant xs))
    (subst (λ x. IfOk r (λ b. IsTrue b ↔ AreAsked types x (fields xs))) asks (subst (λ zs. IfOk r (λ b. IsTrue b ↔ AreAsked types a (fields zs))) same h))

-- whether a struct is
pub struct_as_asked : {E : Type 0} (types : List TypeItem) (name ty : List ℕ) (xs ys : List (List ℕ × CodeValue)) (g : CodeValue) (a : Asked) (r : Result Bool E) → g ≡ code.Struct ty xs → a ≡ struct_asked types name ty → ys ≡ xs
    → IfOk r (λ b. IsTrue b ↔ AreAsked types a (fields ys)) → IfOk r (λ b. IsTrue b ↔ IsNamed types name (value g))
struct_as_asked types name ty xs ys g a r is asks same h =
    subst (λ v. IfOk r (λ b. IsTrue b ↔ IsNamed types name v)) (sym (ap value is ∙ value-struct ty xs))
    (subst (λ x. IfOk r (λ b. IsTrue b ↔ AreAsked types x (fields xs))) asks (subst (λ zs. IfOk r (λ b. IsTrue b ↔ AreAsked types a (fields zs))) same h))

-- a field of a tuple that has another name than its number
pub misnumbered : (types : List TypeItem) (tys : List (List ℕ)) (i : ℕ) (fs : List (List ℕ × CodeValue)) (f d : List ℕ × CodeValue) (X : Type 0) (b : Bool) → i < length tys → i < length fs → f ≡ get_or fs i d → b ≡ same_bytes f.0 (decimal i) → b ≡ false
    → AreAsked types (These (tuple_fields i (drop i tys))) (fields (drop i fs)) ↔ X → IsTrue false ↔ X
misnumbered types tys i fs f d X b low lower is test wrong h = (λ t. absurd cc, λ x. absurd (none (at x)))
  where
    at : X → IsTrue (same_bytes f.0 (decimal i))
    at x =
        let first = subst (λ ts. AreAsked types (These (tuple_fields i ts)) (fields (drop i fs))) (drop_more tys i [] low) (h.1 x) in
        let both = subst (λ zs. AreAsked types (These (tuple_fields i (get_or tys i [] ∷ drop (i + 1) tys))) (fields zs)) (drop_more fs i d lower ∙ ap (λ y. y ∷ drop (i + 1) fs) (sym is)) first in
        both.0

    none : IsTrue (same_bytes f.0 (decimal i)) → ⊥
    none t = let no : same_bytes f.0 (decimal i) ≡ false = sym test ∙ wrong in cc
