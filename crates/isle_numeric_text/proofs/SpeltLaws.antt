-- The text of the numeric prelude spells its definitions, and no others.
use Rattle.std.proofs.Common.{◌≡◌, ◌≤◌, ℕ, suc, List, [], ◌∷◌, ◌++◌, map, Bool, true, false, cond, codes, flat_map, refl, sym, ap, ◌∙◌, subst, arith}
use Rattle.std.specs.List.{filter}
use Rattle.std.specs.Prelude.{◌||◌, max}
use Rattle.isle_ast.specs.Tree.{Def, Pattern, ExternConstructor, ExternExtractor}
use Rattle.isle_numerics.specs.declared.conversion.Conversion.{Conversion}
use Rattle.isle_numerics.specs.declared.conversion.Conversion.TheVariants.{Into, TryInto, UnwrapInto, TruncateInto, CastSigned, CastUnsigned}
use Rattle.isle_numerics.specs.declared.numeric_type.NumericType.{NumericType}
use Rattle.isle_numerics.specs.declared.operation.Gives.{Gives}
use Rattle.isle_numerics.specs.declared.operation.Gives.TheVariants.{Same, Truth, Places}
use Rattle.isle_numerics.specs.declared.operation.Operation.{Operation}
use Rattle.isle_numerics.specs.declared.operation.Takes.{Takes}
use Rattle.isle_numerics.specs.declared.operation.Takes.TheVariants.{One, Two, Amount}
use Rattle.isle_numerics.specs.Conversions.{conversions}
use Rattle.isle_numerics.specs.Definitions.{asked, argument_types, back_defs, constructed, conversion_defs, conversion_name, declared, extracted, extractors, flagged, from_name, implied, is_other, is_trial, matcher, name_of, no_place, numeric_defs, operation_defs, pair_defs, prefixed, standing, type_defs}
use Rattle.isle_numerics.specs.NumericTypes.{int_type, numeric_types}
use Rattle.isle_numerics.specs.Operations.{row}
use Rattle.isle_numerics.specs.Table.{arguments, given, is_predicate, operations}
use Rattle.isle_writing.specs.Text.{def_texts}
use Rattle.isle_writing.specs.Writable.{AreNames, AreWritable, IsPattern, IsPlain, NamesOne}
use Rattle.isle_writing.specs.Height.{pattern_height}
use Rattle.isle_writing.specs.Spelt.{SpellsOnly, declare_flag}
use Rattle.isle_writing.proofs.Joined.{no_flag_each, no_flag_joined, writable_each, writable_joined}
use Rattle.isle_writing.proofs.Names.{plain_joined}
use Rattle.isle_writing.proofs.WrittenLaw.{written_spelt}
use Rattle.isle_numeric_text.specs.Among.{defs_among, pairs_among}
use Rattle.isle_numeric_text.proofs.NumericNames.{Begins, IsTermWord, bool_named, flagged_pattern, prefixed_term, type_begins, u32_named, x_named, x_variable}
use Rattle.isle_numeric_text.proofs.OperationNames.{asked_plain, row_plain}
use Rattle.isle_numeric_text.proofs.TextLaws.{numeric_among}

-- definitions that can be written, none of which declares a term that has the name of a flag
pub record AreSpellable (ds : List Def) : Type 0 where
  pub written : AreWritable ds
  pub no_flag : declare_flag ds ≡ false

nothing : AreSpellable []
nothing = record { written = tt; no_flag = refl }

joined : (ds es : List Def) → AreSpellable ds → AreSpellable es → AreSpellable (ds ++ es)
joined ds es h k = record { written = writable_joined ds es h.written k.written; no_flag = no_flag_joined ds es h.no_flag k.no_flag }

each : {X : Type 0} (f : X → List Def) → ((x : X) → AreSpellable (f x)) → (xs : List X) → AreSpellable (flat_map f xs)
each f h xs = record { written = writable_each f (λ x. (h x).written) xs; no_flag = no_flag_each f (λ x. (h x).no_flag) xs }

-- ---- one definition, and more

declared_then : (term : List ℕ) (partial : Bool) (args : List (List ℕ)) (ret : List ℕ) (more : List Def) → IsTermWord term → AreNames args → NamesOne ret
    → AreSpellable more
    → AreSpellable (declared term partial args ret ∷ more)
declared_then term partial args ret more t a r m =
    record { written = (((t.named, a, r), omega arith), m.written); no_flag = ap (λ b. b || declare_flag more) t.no_flag ∙ m.no_flag }

constructed_then : (term : List ℕ) (partial : Bool) (args : List (List ℕ)) (ret : List ℕ) (more : List Def) → IsTermWord term → AreNames args
    → NamesOne ret → AreSpellable more
    → AreSpellable (constructed term partial args ret ++ more)
constructed_then term partial args ret more t a r m =
    declared_then term partial args ret (ExternConstructor term term no_place ∷ more) t a r
    (record { written = (((t.named, t.named), omega arith), m.written); no_flag = m.no_flag })

answered_then : (term func : List ℕ) (more : List Def) → NamesOne term → NamesOne func → AreSpellable more
    → AreSpellable (ExternExtractor term func false no_place ∷ more)
answered_then term func more t f m = record { written = (((t, f), omega arith), m.written); no_flag = m.no_flag }

standing_then : (ty term : List ℕ) (args params : List (List ℕ)) (p : Pattern) (more : List Def)
    → NamesOne ty → IsTermWord term → AreNames args → AreNames params → IsPattern p → suc (max 1 (pattern_height p)) ≤ 256 → AreSpellable more
    → AreSpellable (standing ty term args params p ++ more)
standing_then ty term args params p more y t a s q l m =
    declared_then term false args ty _ t a y (record { written = (((t.named, s, q), l), m.written); no_flag = m.no_flag })

-- ---- operations

arguments_named : (w : List ℕ) → NamesOne w → (t : Takes) → AreNames (map (λ (arg : List ℕ × List ℕ). arg.1) (arguments w t))
arguments_named w h One = (h, tt)
arguments_named w h Two = (h, (h, tt))
arguments_named w h Amount = (h, (u32_named, tt))

given_named : (w : List ℕ) → NamesOne w → (g : Gives) → NamesOne (given w g)
given_named w h Same = h
given_named w h Truth = bool_named
given_named w h Places = u32_named

extractors_spelt : (w base : List ℕ) → Begins w → IsPlain base → AreSpellable (extractors w base)
extractors_spelt w base h k =
    let m : IsTermWord (matcher w base) = prefixed_term w (codes "matches_" ++ base) h (plain_joined (codes "matches_") base refl k) in
    let e : IsTermWord (prefixed w (codes "extract_" ++ base)) = prefixed_term w (codes "extract_" ++ base) h (plain_joined (codes "extract_") base refl k) in
    let when : IsTermWord (prefixed w (codes "when_" ++ base)) = prefixed_term w (codes "when_" ++ base) h (plain_joined (codes "when_") base refl k) in
    let when_not : IsTermWord (prefixed w (codes "when_not_" ++ base)) =
    prefixed_term w (codes "when_not_" ++ base) h (plain_joined (codes "when_not_") base refl k) in
    let wants : (flag : Bool) → IsPattern (flagged (matcher w base) flag) =
    λ flag. flagged_pattern w (codes "matches_" ++ base) flag h (plain_joined (codes "matches_") base refl k) in
    declared_then (matcher w base) false (codes "bool" ∷ []) w _ m (bool_named, tt) h.named
    (answered_then (matcher w base) (matcher w base) _ m.named m.named
    (standing_then w (prefixed w (codes "extract_" ++ base)) (w ∷ []) (codes "x" ∷ []) (extracted (matcher w base)) _ h.named e (h.named, tt) (x_named, tt)
    (wants true, (x_variable, tt)) (omega arith)
    (standing_then w (prefixed w (codes "when_" ++ base)) [] [] (flagged (matcher w base) true) _ h.named when tt tt (wants true) (omega arith)
    (standing_then w (prefixed w (codes "when_not_" ++ base)) [] [] (flagged (matcher w base) false) [] h.named when_not tt tt (wants false)
    (omega arith) nothing))))

asked_if : (b : Bool) (ds : List Def) → AreSpellable ds → AreSpellable (cond b ds [])
asked_if true ds h = h
asked_if false ds h = nothing

operation_spelt : (w : List ℕ) → Begins w → (op : Operation) → AreSpellable (operation_defs w op)
operation_spelt w h op =
    constructed_then (prefixed w (row op).name) (row op).is_partial (argument_types w op) (given w (row op).gives)
    (cond (is_predicate op) (extractors w (asked op)) [])
    (prefixed_term w (row op).name h (row_plain op)) (arguments_named w h.named (row op).takes) (given_named w h.named (row op).gives)
    (asked_if (is_predicate op) (extractors w (asked op)) (extractors_spelt w (asked op) h (asked_plain op)))

pub named_begins : (ty : NumericType) → Begins (name_of ty)
named_begins ty = type_begins (int_type ty)

type_spelt : (ty : NumericType) → AreSpellable (type_defs ty)
type_spelt ty = each (operation_defs (name_of ty)) (operation_spelt (name_of ty) (named_begins ty)) (operations ty.signed)

-- ---- conversions

conversion_term : (from to : List ℕ) → Begins from → Begins to → (c : Conversion) → IsTermWord (conversion_name from to c)
conversion_term from to h k Into = prefixed_term from (codes "into_" ++ to) h (plain_joined (codes "into_") to refl k.word.1)
conversion_term from to h k TryInto = prefixed_term from (codes "try_into_" ++ to) h (plain_joined (codes "try_into_") to refl k.word.1)
conversion_term from to h k UnwrapInto = prefixed_term from (codes "unwrap_into_" ++ to) h (plain_joined (codes "unwrap_into_") to refl k.word.1)
conversion_term from to h k TruncateInto = prefixed_term from (codes "truncate_into_" ++ to) h (plain_joined (codes "truncate_into_") to refl k.word.1)
conversion_term from to h k CastSigned = prefixed_term from (codes "cast_signed") h refl
conversion_term from to h k CastUnsigned = prefixed_term from (codes "cast_unsigned") h refl

implied_spelt : (from to : List ℕ) → Begins from → Begins to → (c : Conversion) → AreSpellable (implied from to c)
implied_spelt from to h k Into = record { written = (((h.named, k.named, (conversion_term from to h k Into).named), omega arith), tt); no_flag = refl }
implied_spelt from to h k TryInto = nothing
implied_spelt from to h k UnwrapInto = nothing
implied_spelt from to h k TruncateInto = nothing
implied_spelt from to h k CastSigned = nothing
implied_spelt from to h k CastUnsigned = nothing

conversion_spelt : (from to : List ℕ) → Begins from → Begins to → (c : Conversion) → AreSpellable (conversion_defs from to c)
conversion_spelt from to h k c =
    constructed_then (conversion_name from to c) (is_trial c) (from ∷ []) to (implied from to c) (conversion_term from to h k c) (h.named, tt) k.named
    (implied_spelt from to h k c)

from_term : (to from : List ℕ) → Begins to → Begins from → IsTermWord (from_name to from)
from_term to from h k = prefixed_term to (codes "from_" ++ from) h (plain_joined (codes "from_") from refl k.word.1)

back_spelt : (from to : List ℕ) → Begins from → Begins to → AreSpellable (back_defs from to)
back_spelt from to h k =
    declared_then (from_name to from) false (to ∷ []) from _ (from_term to from k h) (k.named, tt) h.named
    (answered_then (from_name to from) (from_name from to) [] (from_term to from k h).named (from_term from to h k).named nothing)

pair_spelt : (from to : NumericType) → AreSpellable (pair_defs from to)
pair_spelt from to =
    joined (flat_map (conversion_defs (name_of from) (name_of to)) (conversions from to)) (back_defs (name_of from) (name_of to))
    (each (conversion_defs (name_of from) (name_of to)) (conversion_spelt (name_of from) (name_of to) (named_begins from) (named_begins to)) (conversions from to))
    (back_spelt (name_of from) (name_of to) (named_begins from) (named_begins to))

-- ---- all of them

pairs_spelt : (types : List NumericType) (from : NumericType) → AreSpellable (pairs_among types from)
unfolding pairs_among
pairs_spelt types from = each (pair_defs from) (pair_spelt from) (filter (is_other from) types)

among_spelt : (types : List NumericType) → AreSpellable (defs_among types)
unfolding defs_among
among_spelt types = joined (flat_map type_defs types) (flat_map (pairs_among types) types) (each type_defs type_spelt types)
    (each (pairs_among types) (pairs_spelt types) types)

-- the definitions among any types are spelt by their text, and no others are
pub among_spelt_only : (types : List NumericType) (text : List ℕ) → text ≡ def_texts (defs_among types) → SpellsOnly text (defs_among types)
among_spelt_only types text e = (written_spelt text (defs_among types) (among_spelt types).written e).named (among_spelt types).no_flag

pub numeric_spelt : (text : List ℕ) → text ≡ def_texts numeric_defs → SpellsOnly text numeric_defs
numeric_spelt text e =
    subst (λ ds. SpellsOnly text ds) numeric_among (among_spelt_only numeric_types text (e ∙ ap def_texts (sym numeric_among)))
