-- What stands among the definitions of an optimizer.
use Rattle.std.proofs.Common.{◌≡◌, ℕ, zero, suc, List, [], ◌∷◌, ◌++◌, map, Bool, true, false, Option, Some, None, refl, sym, ap, ◌∙◌, subst, ⊎_elim}
use Rattle.std.specs.Prelude.{◌||◌, Contains, slice_get, codes}
use Rattle.std.specs.List.{IsDistinct, flat_map, cons_option}
use Rattle.std.specs.Str.{bytes_eq}
use Rattle.std.proofs.lemmas.List.{map-append}
use Rattle.std.proofs.lemmas.List.Elements.{Contains-append_left, Contains-append_right, filter_map-append}
use Rattle.isle_core.proofs.Contained.{contained_cases, none_contained}
use Rattle.isle_ast.specs.Tree.{Def}
use Rattle.isle_declarations.specs.Heads.{terms_of, heads_of}
use Rattle.isle_declarations.specs.Signatures.{Signature, ExtractorDef, RuleDef, signature_of, extractor_of, rule_of, signatures, extractors, rule_defs}
use Rattle.isle_declarations.specs.Terms.{terms_by, terms}
use Rattle.isle_meta.specs.declared.clif.Instruction.{Instruction}
use Rattle.isle_meta.specs.declared.clif.InstructionFormat.{InstructionFormat}
use Rattle.isle_meta.specs.declared.tables.Tables.{Tables}
use Rattle.isle_meta.specs.FormatRow.{all_fields}
use Rattle.isle_prelude.specs.Arrays.{value_array_sizes, block_array_sizes, value_array_defs, block_array_defs, arrays}
use Rattle.isle_prelude.specs.ClifFiles.{instruction_defs, of_format, opt_defs}
use Rattle.isle_prelude.specs.CommonDefs.{imm_enum, imm_defs, common_defs}
use Rattle.isle_prelude.specs.Declaring.{primitive}
use Rattle.isle_prelude.specs.Immediates.{plain_types, enum_types}
use Rattle.isle_meta.specs.declared.clif.ImmField.{ImmField}
use Rattle.isle_prelude.specs.InstructionData.{data_defs}
use Rattle.isle_prelude.specs.Manners.{Manner, optimized, opt_manner}
use Rattle.isle_prelude.specs.WrittenPrelude.{shared_types, ctor_defs, opt_terms, ctor_sizes, written_defs}
use Rattle.isle_prelude_laws.specs.RoundTrip.{opt_source}
use Rattle.isle_prelude_laws.proofs.SizesThere.{filter_there}

-- ---- lists

pub flat_there : {A B : Type 0} (each : A → List B) (xs : List A) (x : A) (y : B) → Contains xs x → Contains (each x) y → Contains (flat_map each xs) y
flat_there each [] x y h k = absurd (none_contained x h)
flat_there each (z ∷ xs) x y h k =
    ⊎_elim
    (λ (here : z ≡ x). Contains-append_left (each z) (flat_map each xs) y (subst (λ w. Contains (each w) y) (sym here) k))
    (λ there. Contains-append_right (each z) (flat_map each xs) y (flat_there each xs x y there k))
    (contained_cases z xs x h)

-- what a definition gives stands among what all give
pub term_there : (ds : List Def) (d : Def) (s : Signature) → Contains ds d → Contains (terms_by d) s → Contains (terms ds) s
term_there ds d s c k = flat_there terms_by ds d s c k

pub extractor_there : (ds : List Def) (d : Def) (x : ExtractorDef) → Contains ds d → extractor_of d ≡ Some x → Contains (extractors ds) x
extractor_there ds d x c h = filter_there extractor_of ds d x c h

pub rule_there : (ds : List Def) (d : Def) (r : RuleDef) → Contains ds d → rule_of d ≡ Some r → Contains (rule_defs ds) r
rule_there ds d r c h = filter_there rule_of ds d r c h

-- ---- the parts of the definitions

-- those of instructions
abbrev instructions_of : Tables → List Def
instructions_of t = flat_map (λ (i : Instruction). of_format opt_manner (slice_get t.formats i.format) i) t.instructions

pub in_written : (t : Tables) (d : Def) → Contains (written_defs t) d → Contains (opt_source t) d
in_written t d c = Contains-append_left (written_defs t) (opt_defs t) d c

pub in_types : (t : Tables) (d : Def) → Contains shared_types d → Contains (opt_source t) d
in_types t d c = in_written t d (Contains-append_left shared_types (opt_terms ++ flat_map ctor_defs (ctor_sizes t)) d c)

pub in_terms : (t : Tables) (d : Def) → Contains opt_terms d → Contains (opt_source t) d
in_terms t d c = in_written t d (Contains-append_right shared_types (opt_terms ++ flat_map ctor_defs (ctor_sizes t)) d (Contains-append_left opt_terms (flat_map ctor_defs (ctor_sizes t)) d c))

pub in_ctors : (t : Tables) (n : ℕ) (d : Def) → Contains (ctor_sizes t) n → Contains (ctor_defs n) d → Contains (opt_source t) d
in_ctors t n d s c =
    in_written t d (Contains-append_right shared_types (opt_terms ++ flat_map ctor_defs (ctor_sizes t)) d (Contains-append_right opt_terms (flat_map ctor_defs (ctor_sizes t)) d (flat_there ctor_defs (ctor_sizes t) n d s c)))

in_opt : (t : Tables) (d : Def) → Contains (opt_defs t) d → Contains (opt_source t) d
in_opt t d c = Contains-append_right (written_defs t) (opt_defs t) d c

in_common : (t : Tables) (d : Def) → Contains (common_defs t) d → Contains (opt_source t) d
in_common t d c = in_opt t d (Contains-append_left (common_defs t) (instructions_of t) d c)

in_arrays : (t : Tables) (d : Def) → Contains (arrays t.formats) d → Contains (opt_source t) d
in_arrays t d c = in_common t d (Contains-append_right (imm_defs (all_fields t.formats)) (arrays t.formats ++ data_defs t.formats t.instructions) d (Contains-append_left (arrays t.formats) (data_defs t.formats t.instructions) d c))

pub in_values : (t : Tables) (n : ℕ) (d : Def) → Contains (value_array_sizes t.formats) n → Contains (value_array_defs n) d → Contains (opt_source t) d
in_values t n d s c = in_arrays t d (Contains-append_left (flat_map value_array_defs (value_array_sizes t.formats)) (flat_map block_array_defs (block_array_sizes t.formats)) d (flat_there value_array_defs (value_array_sizes t.formats) n d s c))

pub in_blocks : (t : Tables) (n : ℕ) (d : Def) → Contains (block_array_sizes t.formats) n → Contains (block_array_defs n) d → Contains (opt_source t) d
in_blocks t n d s c = in_arrays t d (Contains-append_right (flat_map value_array_defs (value_array_sizes t.formats)) (flat_map block_array_defs (block_array_sizes t.formats)) d (flat_there block_array_defs (block_array_sizes t.formats) n d s c))

pub in_data : (t : Tables) (d : Def) → Contains (data_defs t.formats t.instructions) d → Contains (opt_source t) d
in_data t d c = in_common t d (Contains-append_right (imm_defs (all_fields t.formats)) (arrays t.formats ++ data_defs t.formats t.instructions) d (Contains-append_right (arrays t.formats) (data_defs t.formats t.instructions) d c))

-- those of an instruction
pub in_instruction : (t : Tables) (i : Instruction) (f : InstructionFormat) (m : Manner) (d : Def) → Contains t.instructions i
    → slice_get t.formats i.format ≡ Some f → opt_manner f.has_value_list i ≡ Some m → Contains (instruction_defs (Some m) f i) d
    → Contains (opt_source t) d
in_instruction t i f m d among is taken c =
    in_opt t d (Contains-append_right (common_defs t) (instructions_of t) d
    (flat_there (λ (j : Instruction). of_format opt_manner (slice_get t.formats j.format) j) t.instructions i d among
    (subst (λ o. Contains (of_format opt_manner o i) d) (sym is) (subst (λ o. Contains (instruction_defs o f i) d) (sym taken) c))))

-- ---- rules, and what is converted

-- definitions without rules
abbrev HasNoRule : List Def → Type 0
HasNoRule ds = rule_defs ds ≡ []

no_rules : (xs ys : List Def) → HasNoRule xs → HasNoRule ys → HasNoRule (xs ++ ys)
no_rules xs ys h k = filter_map-append rule_of xs ys ∙ ap (λ rs. rs ++ rule_defs ys) h ∙ k

flat_rules : {A : Type 0} (each : A → List Def) (xs : List A) → ((x : A) → HasNoRule (each x)) → HasNoRule (flat_map each xs)
flat_rules each [] h = refl
flat_rules each (x ∷ xs) h = no_rules (each x) (flat_map each xs) (h x) (flat_rules each xs h)

map_rules : {A : Type 0} (each : A → Def) (xs : List A) → ((x : A) → rule_of (each x) ≡ None) → HasNoRule (map each xs)
map_rules each [] h = refl
map_rules each (x ∷ xs) h = ap (λ o. cons_option o (rule_defs (map each xs))) (h x) ∙ map_rules each xs h

written_rules : (t : Tables) → HasNoRule (written_defs t)
written_rules t = no_rules shared_types (opt_terms ++ flat_map ctor_defs (ctor_sizes t)) refl (no_rules opt_terms (flat_map ctor_defs (ctor_sizes t)) refl (flat_rules ctor_defs (ctor_sizes t) (λ n. refl)))

imm_rules : (is : List ImmField) → HasNoRule (imm_defs is)
imm_rules is = no_rules (map primitive (plain_types is)) (primitive (codes "MemFlagsData") ∷ map (imm_enum is) (enum_types is)) (map_rules primitive (plain_types is) (λ n. refl)) (map_rules (imm_enum is) (enum_types is) (λ n. refl))

common_rules : (t : Tables) → HasNoRule (common_defs t)
common_rules t =
    no_rules (imm_defs (all_fields t.formats)) (arrays t.formats ++ data_defs t.formats t.instructions) (imm_rules (all_fields t.formats))
    (no_rules (arrays t.formats) (data_defs t.formats t.instructions)
    (no_rules (flat_map value_array_defs (value_array_sizes t.formats)) (flat_map block_array_defs (block_array_sizes t.formats)) (flat_rules value_array_defs (value_array_sizes t.formats) (λ n. refl)) (flat_rules block_array_defs (block_array_sizes t.formats) (λ n. refl))) refl)

-- the rules are those of instructions
pub rules_are : (t : Tables) → rule_defs (opt_source t) ≡ rule_defs (instructions_of t)
rules_are t =
    filter_map-append rule_of (written_defs t) (opt_defs t) ∙ ap (λ rs. rs ++ rule_defs (opt_defs t)) (written_rules t)
    ∙ filter_map-append rule_of (common_defs t) (instructions_of t) ∙ ap (λ rs. rs ++ rule_defs (instructions_of t)) (common_rules t)

-- a rule for each declaration
taken_both : (results : ℕ) (has_effects : Bool) (f : InstructionFormat) (i : Instruction)
    → heads_of (rule_defs (instruction_defs (Some (optimized results has_effects)) f i)) ≡ terms_of (signatures (instruction_defs (Some (optimized results has_effects)) f i))
taken_both zero e f i = refl
taken_both (suc zero) false f i = refl
taken_both (suc zero) true f i = refl
taken_both (suc (suc n)) e f i = refl

format_both : (o : Option InstructionFormat) (i : Instruction)
    → heads_of (rule_defs (of_format opt_manner o i)) ≡ terms_of (signatures (of_format opt_manner o i))
format_both None i = refl
format_both (Some f) i = by f.has_value_list
  where
    by : (b : Bool) → heads_of (rule_defs (instruction_defs (opt_manner b i) f i)) ≡ terms_of (signatures (instruction_defs (opt_manner b i) f i))
    by true = refl
    by false = taken_both i.value_results (i.can_trap || i.other_side_effects) f i

both_names : (fs : List InstructionFormat) (is : List Instruction)
    → heads_of (rule_defs (flat_map (λ (i : Instruction). of_format opt_manner (slice_get fs i.format) i) is)) ≡ terms_of (signatures (flat_map (λ (i : Instruction). of_format opt_manner (slice_get fs i.format) i) is))
both_names fs [] = refl
both_names fs (i ∷ is) =
    let here = of_format opt_manner (slice_get fs i.format) i in
    let rest = flat_map (λ (j : Instruction). of_format opt_manner (slice_get fs j.format) j) is in
    ap heads_of (filter_map-append rule_of here rest) ∙ map-append (λ (r : RuleDef). r.term) (rule_defs here) (rule_defs rest)
    ∙ ap (λ xs. xs ++ heads_of (rule_defs rest)) (format_both (slice_get fs i.format) i) ∙ ap (λ xs. terms_of (signatures here) ++ xs) (both_names fs is)
    ∙ sym (map-append (λ (s : Signature). s.term) (signatures here) (signatures rest)) ∙ ap terms_of (sym (filter_map-append signature_of here rest))

distinct_behind : (xs ys : List (List ℕ)) → IsDistinct bytes_eq (xs ++ ys) → IsDistinct bytes_eq ys
unfolding IsDistinct
distinct_behind [] ys h = h
distinct_behind (x ∷ xs) ys h = distinct_behind xs ys h.1

split_terms : (xs ys : List Def) → terms_of (signatures (xs ++ ys)) ≡ terms_of (signatures xs) ++ terms_of (signatures ys)
split_terms xs ys = ap terms_of (filter_map-append signature_of xs ys) ∙ map-append (λ (s : Signature). s.term) (signatures xs) (signatures ys)

-- the heads of rules are apart where the names of declarations are
pub heads_apart : (t : Tables) → IsDistinct bytes_eq (terms_of (signatures (opt_source t))) → IsDistinct bytes_eq (heads_of (rule_defs (opt_source t)))
heads_apart t h =
    let all : IsDistinct bytes_eq (terms_of (signatures (written_defs t)) ++ (terms_of (signatures (common_defs t)) ++ terms_of (signatures (instructions_of t)))) =
    subst (IsDistinct bytes_eq) (split_terms (written_defs t) (opt_defs t) ∙ ap (λ xs. terms_of (signatures (written_defs t)) ++ xs) (split_terms (common_defs t) (instructions_of t))) h in
    let own = distinct_behind (terms_of (signatures (common_defs t))) (terms_of (signatures (instructions_of t))) (distinct_behind (terms_of (signatures (written_defs t))) (terms_of (signatures (common_defs t)) ++ terms_of (signatures (instructions_of t))) all) in
    subst (IsDistinct bytes_eq) (sym (both_names t.formats t.instructions) ∙ ap heads_of (sym (rules_are t))) own
