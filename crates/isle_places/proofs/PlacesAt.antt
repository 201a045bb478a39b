-- Places as they are gathered.
use Rattle.std.proofs.Common.{◌≡◌, ℕ, zero, suc, ◌+◌, ◌<◌, List, [], ◌∷◌, ◌++◌, length, drop, get_or, refl, sym, ap, ◌∙◌, arith, append_assoc}
use Rattle.std.specs.Prelude.{OnOk, slice_get}
use Rattle.std.specs.declared.result.Result.{Result}
use Rattle.std.specs.declared.result.Result.TheVariants as result
use Rattle.std.proofs.lemmas.List.{drop_more}
use Rattle.isle_tree.specs.declared.tree.Operand.{Operand}
use Rattle.isle_tree.specs.declared.tree.Read.{Read}
use Rattle.isle_tree.specs.declared.tree.Ty.{Ty}
use Rattle.isle_places.specs.Signatures.{type_names}
use Rattle.isle_places.specs.Told.{Told, operand_of, param_told}
use Rattle.isle_places.specs.Places.{Place, at, reads_places}

-- two parts in order
pub two : (old one new ps qs whole : List Place) → one ≡ old ++ ps → new ≡ one ++ qs → whole ≡ ps ++ qs → new ≡ old ++ whole
two old one new ps qs whole e f h = f ∙ ap (λ xs. xs ++ qs) e ∙ append_assoc old ps qs ∙ ap (λ xs. old ++ xs) (sym h)

-- if the last one was appended
pub two_ok : {B E : Type 0} (r : Result B E) (old one new ps qs whole : List Place) → one ≡ old ++ ps → OnOk r (new ≡ one ++ qs) → whole ≡ ps ++ qs → OnOk r (new ≡ old ++ whole)
two_ok (result.Ok v) old one new ps qs whole e f h = two old one new ps qs whole e f h
two_ok (result.Err x) old one new ps qs whole e f h = tt

-- one part of what is left
pub part_more : (old now next whole ps qs left : List Place) → next ≡ now ++ ps → left ≡ ps ++ qs → now ++ left ≡ old ++ whole → next ++ qs ≡ old ++ whole
part_more old now next whole ps qs left e h left_is =
    ap (λ xs. xs ++ qs) e
    ∙ append_assoc now ps qs
    ∙ ap (λ xs. now ++ xs) (sym h)
    ∙ left_is

-- ---- arguments

next_args : (rs : List Read) (i : ℕ) (params : List Ty) (r : Read) → reads_places (r ∷ rs) (type_names (drop i params)) ≡ at (operand_of r) (param_told (slice_get params i)) ++ reads_places rs (type_names (drop (suc i) params))
next_args rs zero [] r = refl
next_args rs zero (ty ∷ params) r = refl
next_args rs (suc i) [] r = refl
next_args rs (suc i) (ty ∷ params) r = next_args rs i params r

pub reads_next : (reads : List Read) (i : ℕ) (params : List Ty) (r d : Read) → i < length reads → r ≡ get_or reads i d
    → reads_places (drop i reads) (type_names (drop i params)) ≡ at (operand_of r) (param_told (slice_get params i)) ++ reads_places (drop (i + 1) reads) (type_names (drop (i + 1) params))
reads_next reads i params r d lt is =
    ap (λ rs. reads_places rs (type_names (drop i params))) (drop_more reads i d lt ∙ ap (λ x. x ∷ drop (i + 1) reads) (sym is))
    ∙ next_args (drop (i + 1) reads) i params r
    ∙ ap (λ n. at (operand_of r) (param_told (slice_get params i)) ++ reads_places (drop (i + 1) reads) (type_names (drop n params))) more
  where
    more : suc i ≡ i + 1
    more = omega arith

-- one argument more
pub reads_step : (reads : List Read) (i : ℕ) (params : List Ty) (r d : Read) (o : Operand) (t : Told) (old now next whole : List Place) → i < length reads → r ≡ get_or reads i d → o ≡ operand_of r → t ≡ param_told (slice_get params i) → next ≡ now ++ at o t
    → now ++ reads_places (drop i reads) (type_names (drop i params)) ≡ old ++ whole → next ++ reads_places (drop (i + 1) reads) (type_names (drop (i + 1) params)) ≡ old ++ whole
reads_step reads i params r d o t old now next whole lt is o_is t_is e left =
    part_more old now next whole (at (operand_of r) (param_told (slice_get params i))) (reads_places (drop (i + 1) reads) (type_names (drop (i + 1) params))) (reads_places (drop i reads) (type_names (drop i params)))
    (e ∙ ap (λ x. now ++ at x t) o_is ∙ ap (λ x. now ++ at (operand_of r) x) t_is) (reads_next reads i params r d lt is) left
