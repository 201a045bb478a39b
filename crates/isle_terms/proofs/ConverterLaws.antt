-- Converters that are gathered one after the other.
use Rattle.std.proofs.Common.{◌≡◌, ℕ, ◌+◌, Bool, true, false, cond, List, [], ◌∷◌, ◌++◌, map, get_or, Option, Some, None, refl, sym, ap, ◌∙◌, subst, Ordering}
use Rattle.std.specs.Prelude.{◌==◌, ◌&&◌, ◌||◌, not, is_some, find, slice_get, option_map, option_and_then}
use Rattle.std.specs.Cmp.{nat_cmp_is}
use Rattle.std.specs.Option.{option_or}
use Rattle.std.specs.Ordering.{is_eq, nat_cmp, ordering_then}
use Rattle.std.specs.declared.cmp.Ordering.TheVariants.{Less, Equal, Greater}
use Rattle.std.proofs.lemmas.Bool.{and_parts, or_from, eqb-true, eq-eqb}
use Rattle.std.proofs.lemmas.List.Folds.{find-append}
use Rattle.std.proofs.lemmas.Map.Lookups.{exact_unsigned}
use Rattle.std.proofs.lemmas.Option.{slice_get-map}
use Rattle.isle_core.specs.declared.TermId.{TermId}
use Rattle.isle_core.specs.declared.TypeId.{TypeId}
use Rattle.isle_ast.specs.declared.tree.Def.{Def as CodeDef}
use Rattle.isle_ast.specs.Tree.{Def}
use Rattle.isle_ast.specs.Views.{defs as seen_defs}
use Rattle.isle_declarations.specs.Signatures.{Signature, signatures, signature_named, term_named}
use Rattle.isle_declarations.specs.Collected.{signature as seen_signature}
use Rattle.isle_declarations.specs.declared.collected.Signature.{Signature as CodeSignature}
use Rattle.isle_declarations.specs.Heads.{terms_of}
use Rattle.isle_declarations.specs.Symbols.{index_of, symbols}
use Rattle.isle_declarations.proofs.LookUps.{at_place, named_at}
use Rattle.isle_declarations.specs.Terms.{terms}
use Rattle.isle_types.specs.Builtins.{type_id}
use Rattle.isle_types.specs.TypeRows.{on}
use Rattle.isle_terms.specs.declared.converters.Converter.{Converter}
use Rattle.isle_terms.specs.declared.converters.Converters.{Converters}
use Rattle.isle_terms.specs.Converters.{Conversion, converters, are_types, converts, converter_between, types_of, fits, repeats_after, is_misfit, converter_pass, converters_pass}
use Rattle.isle_terms.specs.ConverterViews.{IsNumberOf, AreFound, IsRight, IsJoined, at_types, pair_cmp, taken_converter, taken_converters}
use Rattle.isle_terms.specs.Tests.{is_misconverting, have_misfit}
use Rattle.isle_terms.specs.Whole.{Whole, whole_of}
use Rattle.isle_terms.proofs.MadeTerms.{first_there, before_both}
use Rattle.isle_terms.proofs.TermSteps.{before}

-- ---- two types

is_equal : (o : Ordering) → is_eq o ≡ true → o ≡ Equal
is_equal Less h = absurd cc
is_equal Equal h = refl
is_equal Greater h = absurd cc

same_numbers : (a b : ℕ) → is_eq (nat_cmp a b) ≡ (a == b)
same_numbers a b = by (is_eq (nat_cmp a b)) (a == b) refl refl
  where
    by : (x y : Bool) → is_eq (nat_cmp a b) ≡ x → (a == b) ≡ y → is_eq (nat_cmp a b) ≡ (a == b)
    by true true e f = e ∙ sym f
    by false false e f = e ∙ sym f
    by true false e f =
        let same : a ≡ b = exact_unsigned a b (is_equal (nat_cmp a b) e) in
        let yes : (a == b) ≡ true = eq-eqb a b same in
        let bad : true ≡ false = sym yes ∙ f in
        absurd cc
    by false true e f =
        let is : Equal ≡ nat_cmp a b = nat_cmp_is a b Equal (eqb-true a b f) in
        let bad : true ≡ false = ap is_eq is ∙ e in
        absurd cc

both_equal : (o p : Ordering) → is_eq (ordering_then o p) ≡ is_eq o && is_eq p
both_equal Less p = refl
both_equal Equal p = refl
both_equal Greater p = refl

same_pair : (a b c d : ℕ) → is_eq (pair_cmp (a, b) (c, d)) ≡ (a == c) && (b == d)
same_pair a b c d = both_equal (nat_cmp a c) (nat_cmp b d) ∙ ap (λ x. x && is_eq (nat_cmp b d)) (same_numbers a c) ∙ ap (λ x. (a == c) && x) (same_numbers b d)

-- ---- one more is found

or_none : {X : Type 0} (o : Option X) → option_or o None ≡ o
or_none None = refl
or_none (Some x) = refl

-- no converter is found before the first
pub found_none : (defs : List Def) (from to : TypeId) → IsNumberOf defs (converter_between defs [] from to) None
found_none defs from to = tt

-- a converter more, between types that have none
pub found_more : (defs : List Def) (cs : List Conversion) (c : Conversion) (old new : Converters) (k : Converter) → IsRight defs cs c k → AreFound defs cs old → IsJoined old k new → AreFound defs (cs ++ c ∷ []) new
found_more defs cs c old new k right all joined = record { finds = λ from to. by from to ((k.from.0 == from.0) && (k.to.0 == to.0)) refl }
  where
    by : (from to : TypeId) (same : Bool) → ((k.from.0 == from.0) && (k.to.0 == to.0)) ≡ same → IsNumberOf defs (converter_between defs (cs ++ c ∷ []) from to) (at_types new.numbers from to)
    by from to true e =
        let parts = and_parts (k.from.0 == from.0) (k.to.0 == to.0) e in
        let of : k.from ≡ from = ap type_id (eqb-true k.from.0 from.0 parts.0) in
        let into : k.to ≡ to = ap type_id (eqb-true k.to.0 to.0 parts.1) in
        let p = converts defs from to in
        let none : find p cs ≡ None = ap (λ t. converter_between defs cs t to) (sym of) ∙ ap (λ t. converter_between defs cs k.from t) (sym into) ∙ right.absent in
        let here : p c ≡ true = ap (λ o. on o (are_types from to)) right.types ∙ e in
        let found : find p (cs ++ c ∷ []) ≡ Some c = find-append p cs (c ∷ []) ∙ ap (λ o. option_or o (find p (c ∷ []))) none ∙ ap (λ b. cond b (Some c) None) here in
        let number : at_types new.numbers from to ≡ Some k.number =
        joined.numbers.0 (from.0, to.0) ∙ ap (λ b. cond b (Some k.number) (at_types old.numbers from to)) (same_pair k.from.0 k.to.0 from.0 to.0 ∙ e) in
        subst (λ o. IsNumberOf defs o (at_types new.numbers from to)) (sym found) (subst (λ n. IsNumberOf defs (Some c) n) (sym number) right.number)
    by from to false e =
        let p = converts defs from to in
        let other : p c ≡ false = ap (λ o. on o (are_types from to)) right.types ∙ e in
        let found : find p (cs ++ c ∷ []) ≡ find p cs = find-append p cs (c ∷ []) ∙ ap (λ b. option_or (find p cs) (cond b (Some c) None)) other ∙ or_none (find p cs) in
        let number : at_types new.numbers from to ≡ at_types old.numbers from to =
        joined.numbers.0 (from.0, to.0) ∙ ap (λ b. cond b (Some k.number) (at_types old.numbers from to)) (same_pair k.from.0 k.to.0 from.0 to.0 ∙ e) in
        subst (λ o. IsNumberOf defs o (at_types new.numbers from to)) (sym found) (subst (λ n. IsNumberOf defs (find p cs) n) (sym number) (all.finds from to))

-- ---- one that is wrong

-- what breaks its row is not taken
pub misfit_untaken : (w : Whole) (cs : List Conversion) (c : Conversion) → is_misconverting w.defs cs c ≡ true → taken_converter w cs c ≡ None
misfit_untaken w cs c h = ap (λ b. cond b None (converter_pass w c)) h

or_right : (a b : Bool) → b ≡ true → a || b ≡ true
or_right true b h = refl
or_right false b h = h

or_left : (a b : Bool) → a ≡ true → a || b ≡ true
or_left true b h = refl
or_left false b h = absurd cc

-- a converter of a term that is not declared
pub undeclared_untaken : (defs : List Def) (cs : List Conversion) (c : Conversion) → signature_named (signatures defs) c.term ≡ None → taken_converter (whole_of defs) cs c ≡ None
undeclared_untaken defs cs c none = misfit_untaken (whole_of defs) cs c (or_left (not (is_some (signature_named (signatures defs) c.term))) (is_misfit defs cs c) (ap (λ o. not (is_some o)) none))

-- one whose term does not fit it
pub unfit_untaken : (defs : List Def) (cs : List Conversion) (c : Conversion) (s : Signature) → signature_named (signatures defs) c.term ≡ Some s → fits c s ≡ false → taken_converter (whole_of defs) cs c ≡ None
unfit_untaken defs cs c s is unfit =
    let bad : on (signature_named (signatures defs) c.term) (λ (x : Signature). not (fits c x)) ≡ true = ap (λ o. on o (λ (x : Signature). not (fits c x))) is ∙ ap not unfit in
    let wrong = or_right (repeats_after defs cs (types_of defs c)) (on (signature_named (signatures defs) c.term) (λ (x : Signature). not (fits c x))) bad in
    misfit_untaken (whole_of defs) cs c (or_right (not (is_some (signature_named (signatures defs) c.term))) (is_misfit defs cs c) wrong)

-- ---- its term

-- a name that no declaration has
pub no_signature : (sigs : List Signature) (name : List ℕ) → index_of (terms_of sigs) name ≡ None → signature_named sigs name ≡ None
no_signature sigs name none = named_at sigs name ∙ ap (at_place sigs) none

-- the declaration at its name's place
pub signature_placed : (sigs : List Signature) (given : List CodeSignature) (name : List ℕ) (place : ℕ) (o : Option CodeSignature) → map seen_signature given ≡ sigs → index_of (terms_of sigs) name ≡ Some place → slice_get given place ≡ o → signature_named sigs name ≡ option_map seen_signature o
signature_placed sigs given name place o all at is = named_at sigs name ∙ ap (at_place sigs) at ∙ ap (λ xs. slice_get xs place) (sym all) ∙ slice_get-map seen_signature given place ∙ ap (option_map seen_signature) is

-- the number of a term is its name's place
pub numbered_term : (sigs : List Signature) (name : List ℕ) (place : ℕ) → index_of (terms_of sigs) name ≡ Some place → term_named sigs name ≡ Some (record { 0 = place })
numbered_term sigs name place at = ap (option_map (λ (n : ℕ). record { 0 = n })) at

-- ---- one that is right

pub right_taken : (defs : List Def) (cs : List Conversion) (c : Conversion) (s : Signature) (from to : TypeId) (number : ℕ) (term : TermId) (between : Option ℕ) → types_of defs c ≡ Some (from, to) → IsNumberOf defs (converter_between defs cs from to) between → is_some between ≡ false
    → signature_named (signatures defs) c.term ≡ Some s → fits c s ≡ true → term_named (terms defs) c.term ≡ Some term → index_of (symbols defs) c.term ≡ Some number
    → IsRight defs cs c (record { from = from; to = to; number = number; term = term })
right_taken defs cs c s from to number term between types none absent is fit there numbered =
    let alone : converter_between defs cs from to ≡ None = by (converter_between defs cs from to) between none absent in
    let a : not (is_some (signature_named (signatures defs) c.term)) ≡ false = ap (λ o. not (is_some o)) is in
    let b : repeats_after defs cs (types_of defs c) ≡ false = ap (repeats_after defs cs) types ∙ ap is_some alone in
    let d : on (signature_named (signatures defs) c.term) (λ (x : Signature). not (fits c x)) ≡ false = ap (λ o. on o (λ (x : Signature). not (fits c x))) is ∙ ap not fit in
    let kept : is_misconverting defs cs c ≡ false =
    ap (λ x. x || is_misfit defs cs c) a ∙ ap (λ x. x || on (signature_named (signatures defs) c.term) (λ (y : Signature). not (fits c y))) b ∙ d in
    let pass : converter_pass (whole_of defs) c ≡ Some (from, to, term) =
    ap (option_and_then (λ (found : TypeId × TypeId). option_map (λ (x : TermId). (found.0, found.1, x)) (term_named (terms defs) c.term))) types ∙ ap (option_map (λ (x : TermId). (from, to, x))) there in
    record { types = types; taken = ap (λ x. cond x None (converter_pass (whole_of defs) c)) kept ∙ pass; absent = alone; number = numbered }
  where
    by : (o : Option Conversion) (n : Option ℕ) → IsNumberOf defs o n → is_some n ≡ false → o ≡ None
    by None n h none = refl
    by (Some x) None h none = absurd h
    by (Some x) (Some n) h none = absurd cc

-- ---- a list

-- an item of a list is one of the same list
pub at_same : {A : Type 0} (xs ys : List A) (i : ℕ) (x d : A) → xs ≡ ys → x ≡ get_or xs i d → x ≡ get_or ys i d
at_same xs ys i x d same at = at ∙ ap (λ (zs : List _). get_or zs i d) same

-- ---- all of them

pub not_kept : {X : Type 0} (b : Bool) (o : Option X) (x : X) → cond b None o ≡ Some x → (b ≡ false) × (o ≡ Some x)
not_kept true o x h = absurd cc
not_kept false o x h = (refl, h)

-- converters that are taken keep their rows, and have types and terms
pub converters_are : (w : Whole) (done cs : List Conversion) (found : List (TypeId × TypeId × TermId)) → taken_converters w done cs ≡ Some found → (have_misfit w.defs done cs ≡ false) × (converters_pass w cs ≡ Some found)
converters_are w done [] found h = (refl, h)
converters_are w done (c ∷ cs) found h =
    let f = first_there (taken_converter w done c) (taken_converters w (done ++ c ∷ []) cs) found h in
    let one = not_kept (is_misconverting w.defs done c) (converter_pass w c) f.first f.here in
    let rest = converters_are w (done ++ c ∷ []) cs f.others f.found in
    (or_from (is_misconverting w.defs done c) (have_misfit w.defs (done ++ c ∷ []) cs) one.0 rest.0, before_both (converter_pass w c) (converters_pass w cs) f.first f.others one.1 rest.1 ∙ ap Some (sym f.all))
