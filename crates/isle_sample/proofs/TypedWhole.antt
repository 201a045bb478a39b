-- What is known of a sample's definitions as a whole.
use Rattle.std.proofs.Common.{◌≡◌, ℕ, ◌-◌, ◌<◌, true, List, [], ◌∷◌, ◌++◌, map, Option, Some, ap, ◌∙◌, arith}
use Rattle.std.specs.Prelude.{option_map}
use Rattle.isle_core.specs.declared.TypeId.{TypeId}
use Rattle.isle_core.specs.declared.position.Pos.{Pos}
use Rattle.isle_core.specs.declared.types.TypeDef.{TypeDef}
use Rattle.isle_declarations.specs.DeclaredTypes.{DeclaredType, made_terms}
use Rattle.isle_declarations.specs.Heads.{terms_of}
use Rattle.isle_declarations.specs.Signatures.{Signature, signatures, externs, extractors, rule_defs, signature_named, term_named, has_rule}
use Rattle.isle_declarations.specs.Symbols.{index_of}
use Rattle.isle_declarations.specs.Terms.{terms}
use Rattle.isle_types.specs.Builtins.{builtins, builtin_names, type_id}
use Rattle.isle_types.specs.TypeEnvironment.{constant_in}
use Rattle.isle_terms.specs.Converters.{converters}
use Rattle.isle_terms.specs.TypeNames.{type_named}
use Rattle.isle_terms.specs.Whole.{Whole, whole_of, termed, declared, arg_types, ret_type}
use Rattle.isle_sample.specs.Sample.{term_name}
use Rattle.isle_sample.proofs.SampleLines.{lines, defs_at, u8_name}
use Rattle.isle_sample.proofs.SampleEnvironment.{u8}
use Rattle.isle_sample.proofs.TypedLines.{lines_typed, lines_ruled}
use Rattle.isle_sample.proofs.TypedDefinitions.{line_signature, no_types, no_type_defs, no_constants, none_made, no_externs, no_extractors, no_converters, declared_terms, terms_of_lines, place_from, declaration_named, ruled_by}

-- the builtin types are there alone, and so many terms by their numbers, each of which comes from its rules
pub record IsTypedWhole (n : ℕ) (w : Whole) : Type 0 where
  pub kinds : w.types.types ≡ builtins
  pub unnamed : w.types.consts ≡ []
  pub known : type_named w.defs u8_name ≡ Some u8
  pub unmade : made_terms w.defs ≡ []
  pub own : externs w.defs ≡ []
  pub untaken : extractors w.defs ≡ []
  pub unconverted : converters w.defs ≡ []
  pub alike : signatures w.defs ≡ terms w.defs
  pub there : (i : ℕ) → i < n → (at : Pos) × (termed w (term_name i) ≡ Some (line_signature (term_name i) at))
  pub numbered : (i : ℕ) → i < n → index_of (terms_of (terms w.defs)) (term_name i) ≡ Some i
  pub ruled : (i : ℕ) → i < n → has_rule (rule_defs w.defs) (term_name i) ≡ true

-- the definitions of a sample are so
pub sample_whole : (n : ℕ) → IsTypedWhole n (whole_of (defs_at 0 (lines n)))
sample_whole n =
    let ds = defs_at 0 (lines n) in
    let place : (i : ℕ) → i < n → index_of (terms_of (terms ds)) (term_name i) ≡ Some i =
    λ i lt. place_from n 0 0 (lines n) i (lines_typed n) (omega arith) lt ∙ ap Some (let none : i - 0 ≡ i = omega arith in none) in
    record {
      kinds = ap (λ (more : List TypeDef). builtins ++ more) (no_type_defs ds 0 (lines n));
      unnamed = ap (map (constant_in ds)) (no_constants 0 (lines n));
      known = ap (λ (ts : List DeclaredType). option_map type_id (index_of (builtin_names ++ map (λ (t : DeclaredType). t.name) ts) u8_name)) (no_types 0 (lines n));
      unmade = none_made 0 (lines n);
      own = no_externs 0 (lines n);
      untaken = no_extractors 0 (lines n);
      unconverted = no_converters 0 (lines n);
      alike = declared_terms 0 (lines n);
      there = λ i lt. declaration_named (terms ds) (term_name i) i (terms_of_lines 0 (lines n)) (place i lt);
      numbered = place;
      ruled = λ i lt. ruled_by (term_name i) 0 (lines n) ∙ lines_ruled n i lt;
    }

-- ---- what its terms are

-- a term is declared
pub is_declared : (n : ℕ) (w : Whole) (i : ℕ) → IsTypedWhole n w → i < n → (at : Pos) × (declared w (term_name i) ≡ Some (line_signature (term_name i) at))
is_declared n w i h lt =
    let found = h.there i lt in
    (found.0, ap (λ (sigs : List Signature). signature_named sigs (term_name i)) h.alike ∙ found.1)

-- its arguments are bytes
pub takes_bytes : (n : ℕ) (w : Whole) (i : ℕ) → IsTypedWhole n w → i < n → arg_types w (termed w (term_name i)) ≡ Some u8 ∷ Some u8 ∷ []
takes_bytes n w i h lt =
    ap (arg_types w) (h.there i lt).1
    ∙ ap (λ (o : Option TypeId). o ∷ o ∷ []) h.known

-- so is its result
pub gives_byte : (n : ℕ) (w : Whole) (i : ℕ) → IsTypedWhole n w → i < n → ret_type w (termed w (term_name i)) ≡ Some u8
gives_byte n w i h lt = ap (ret_type w) (h.there i lt).1 ∙ h.known

-- its number
pub is_numbered : (n : ℕ) (w : Whole) (i : ℕ) → IsTypedWhole n w → i < n → term_named (terms w.defs) (term_name i) ≡ Some (record { 0 = i })
is_numbered n w i h lt = ap (option_map (λ (k : ℕ). record { 0 = k })) (h.numbered i lt)
