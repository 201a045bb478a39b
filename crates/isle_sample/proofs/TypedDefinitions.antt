-- What the definitions of lines declare: terms, and no types, constants, external functions, extractors or converters.
use Rattle.std.proofs.Common.{◌≡◌, ℕ, ◌+◌, ◌-◌, ◌<◌, ◌≤◌, Bool, true, false, cond, List, [], ◌∷◌, length, Option, Some, None, refl, ap, ◌∙◌, arith, ⊎_elim, eq-or-lt_of_le}
use Rattle.std.specs.Prelude.{option_map, filter_map, ◌||◌}
use Rattle.std.specs.List.{AllByRecursion, list_any}
use Rattle.std.specs.Str.{bytes_eq}
use Rattle.std.proofs.lemmas.Slice.Eq.{bytes_eq-Decides}
use Rattle.isle_core.specs.declared.position.Pos.{Pos}
use Rattle.isle_ast.specs.Tree.{Def}
use Rattle.isle_declarations.specs.DeclaredTypes.{types, constants, made_terms}
use Rattle.isle_declarations.specs.Heads.{terms_of}
use Rattle.isle_declarations.specs.Signatures.{Signature, signatures, externs, extractors, rule_defs, signature_named, has_rule}
use Rattle.isle_declarations.specs.Symbols.{index_of}
use Rattle.isle_declarations.specs.Terms.{terms}
use Rattle.isle_declarations.specs.declared.terms.Origin.TheVariants as origin
use Rattle.isle_terms.specs.Converters.{converters}
use Rattle.isle_types.specs.TypeEnvironment.{type_def_in}
use Rattle.isle_sample.specs.Sample.{term_name}
use Rattle.isle_sample.proofs.SampleLines.{Line, Declares, Gives, Otherwise, line_text, defs_at, u8_name}
use Rattle.isle_sample.proofs.TypedNames.{own_name, names_apart}
use Rattle.isle_sample.proofs.TypedLines.{AreTyped, rules_name}

-- ---- what is not there

-- they declare no types
pub no_types : (at : ℕ) (ls : List Line) → types (defs_at at ls) ≡ []
no_types at [] = refl
no_types at (Declares i ∷ ls) = no_types (at + length (line_text (Declares i))) ls
no_types at (Gives i a b ∷ ls) = no_types (at + length (line_text (Gives i a b))) ls
no_types at (Otherwise i ∷ ls) = no_types (at + length (line_text (Otherwise i))) ls

-- so none is added to the builtin ones
pub no_type_defs : (all : List Def) (at : ℕ) (ls : List Line) → filter_map (type_def_in all) (defs_at at ls) ≡ []
no_type_defs all at [] = refl
no_type_defs all at (Declares i ∷ ls) = no_type_defs all (at + length (line_text (Declares i))) ls
no_type_defs all at (Gives i a b ∷ ls) = no_type_defs all (at + length (line_text (Gives i a b))) ls
no_type_defs all at (Otherwise i ∷ ls) = no_type_defs all (at + length (line_text (Otherwise i))) ls

-- they declare no constants
pub no_constants : (at : ℕ) (ls : List Line) → constants (defs_at at ls) ≡ []
no_constants at [] = refl
no_constants at (Declares i ∷ ls) = no_constants (at + length (line_text (Declares i))) ls
no_constants at (Gives i a b ∷ ls) = no_constants (at + length (line_text (Gives i a b))) ls
no_constants at (Otherwise i ∷ ls) = no_constants (at + length (line_text (Otherwise i))) ls

-- no type makes a term
pub none_made : (at : ℕ) (ls : List Line) → made_terms (defs_at at ls) ≡ []
none_made at [] = refl
none_made at (Declares i ∷ ls) = none_made (at + length (line_text (Declares i))) ls
none_made at (Gives i a b ∷ ls) = none_made (at + length (line_text (Gives i a b))) ls
none_made at (Otherwise i ∷ ls) = none_made (at + length (line_text (Otherwise i))) ls

-- no term has an external constructor
pub no_externs : (at : ℕ) (ls : List Line) → externs (defs_at at ls) ≡ []
no_externs at [] = refl
no_externs at (Declares i ∷ ls) = no_externs (at + length (line_text (Declares i))) ls
no_externs at (Gives i a b ∷ ls) = no_externs (at + length (line_text (Gives i a b))) ls
no_externs at (Otherwise i ∷ ls) = no_externs (at + length (line_text (Otherwise i))) ls

-- no term has an extractor
pub no_extractors : (at : ℕ) (ls : List Line) → extractors (defs_at at ls) ≡ []
no_extractors at [] = refl
no_extractors at (Declares i ∷ ls) = no_extractors (at + length (line_text (Declares i))) ls
no_extractors at (Gives i a b ∷ ls) = no_extractors (at + length (line_text (Gives i a b))) ls
no_extractors at (Otherwise i ∷ ls) = no_extractors (at + length (line_text (Otherwise i))) ls

-- there are no converters
pub no_converters : (at : ℕ) (ls : List Line) → converters (defs_at at ls) ≡ []
no_converters at [] = refl
no_converters at (Declares i ∷ ls) = no_converters (at + length (line_text (Declares i))) ls
no_converters at (Gives i a b ∷ ls) = no_converters (at + length (line_text (Gives i a b))) ls
no_converters at (Otherwise i ∷ ls) = no_converters (at + length (line_text (Otherwise i))) ls

-- ---- terms

-- the declaration of a line, by its name and its place
abbrev pub line_signature : List ℕ → Pos → Signature
line_signature name at = record { term = name; pure = false; multi = false; partial = false; recursive = false; args = u8_name ∷ u8_name ∷ []; ret = u8_name; pos = at; origin = origin.Declared }

-- the terms are those that are declared
pub declared_terms : (at : ℕ) (ls : List Line) → signatures (defs_at at ls) ≡ terms (defs_at at ls)
declared_terms at [] = refl
declared_terms at (Declares i ∷ ls) = ap (λ sigs. line_signature (term_name i) (record { file = 0; offset = at }) ∷ sigs) (declared_terms (at + length (line_text (Declares i))) ls)
declared_terms at (Gives i a b ∷ ls) = declared_terms (at + length (line_text (Gives i a b))) ls
declared_terms at (Otherwise i ∷ ls) = declared_terms (at + length (line_text (Otherwise i))) ls

-- each of these is the declaration of a line
abbrev pub AreOfLines : List Signature → Type 0
AreOfLines sigs = AllByRecursion (λ (s : Signature). s ≡ line_signature s.term s.pos) sigs

-- so are all of them
pub terms_of_lines : (at : ℕ) (ls : List Line) → AreOfLines (terms (defs_at at ls))
terms_of_lines at [] = tt
terms_of_lines at (Declares i ∷ ls) = (refl, terms_of_lines (at + length (line_text (Declares i))) ls)
terms_of_lines at (Gives i a b ∷ ls) = terms_of_lines (at + length (line_text (Gives i a b))) ls
terms_of_lines at (Otherwise i ∷ ls) = terms_of_lines (at + length (line_text (Otherwise i))) ls

first_place : (b : Bool) (o : Option ℕ) (k : ℕ) → o ≡ Some k → b ≡ false → cond b (Some 0) (option_map (λ (n : ℕ). n + 1) o) ≡ Some (k + 1)
first_place true o k is other = absurd cc
first_place false o k is other = ap (option_map (λ (n : ℕ). n + 1)) is

first_own : (b : Bool) (o : Option ℕ) → b ≡ true → cond b (Some 0) o ≡ Some 0
first_own true o e = refl
first_own false o e = absurd cc

-- the place of a term among those that are declared from a number on
pub place_from : (n next at : ℕ) (ls : List Line) (i : ℕ) → AreTyped n next ls → next ≤ i → i < n → index_of (terms_of (terms (defs_at at ls))) (term_name i) ≡ Some (i - next)
place_from n next at [] i h low high = absurd (omega (arith, h, low, high))
place_from n next at (Gives j a b ∷ ls) i h low high = place_from n next (at + length (line_text (Gives j a b))) ls i h.3 low high
place_from n next at (Otherwise j ∷ ls) i h low high = place_from n next (at + length (line_text (Otherwise j))) ls i h.1 low high
place_from n next at (Declares j ∷ ls) i h low high =
    ⊎_elim same (λ lt. later lt (place_from n (next + 1) (at + length (line_text (Declares j))) ls i h.2 (omega (arith, lt)) high)) (eq-or-lt_of_le low)
  where
    rest : Option ℕ
    rest = index_of (terms_of (terms (defs_at (at + length (line_text (Declares j))) ls))) (term_name i)

    own : j ≡ next
    own = h.0

    same : next ≡ i → cond (bytes_eq (term_name j) (term_name i)) (Some 0) (option_map (λ (k : ℕ). k + 1) rest) ≡ Some (i - next)
    same e =
        let none : 0 ≡ i - next = omega (arith, e) in
        let one : i ≡ j = omega (arith, e, own) in
        first_own (bytes_eq (term_name j) (term_name i)) (option_map (λ (k : ℕ). k + 1) rest) (ap (λ k. bytes_eq (term_name j) (term_name k)) one ∙ own_name j) ∙ ap Some none

    later : next < i → rest ≡ Some (i - (next + 1)) → cond (bytes_eq (term_name j) (term_name i)) (Some 0) (option_map (λ (k : ℕ). k + 1) rest) ≡ Some (i - next)
    later lt behind =
        let more : (i - (next + 1)) + 1 ≡ i - next = omega (arith, lt) in
        first_place (bytes_eq (term_name j) (term_name i)) rest (i - (next + 1)) behind (names_apart j i (λ e. absurd (omega (arith, e, own, lt)))) ∙ ap Some more

first_named : (s : Signature) (name : List ℕ) (k : ℕ) (b : Bool) (o : Option ℕ) (found : Option Signature) → s ≡ line_signature s.term s.pos → bytes_eq s.term name ≡ b
    → ((m : ℕ) → o ≡ Some m → (at : Pos) × (found ≡ Some (line_signature name at)))
    → cond b (Some 0) (option_map (λ (n : ℕ). n + 1) o) ≡ Some k → (at : Pos) × (cond b (Some s) found ≡ Some (line_signature name at))
first_named s name k true o found is same rest e = (s.pos, ap Some (is ∙ ap (λ term. line_signature term s.pos) ((bytes_eq-Decides s.term name).0 same)))
first_named s name k false None found is same rest e = absurd cc
first_named s name k false (Some m) found is same rest e = rest m refl

-- if a name has a place among declarations of lines, its declaration is that of a line
pub declaration_named : (sigs : List Signature) (name : List ℕ) (k : ℕ) → AreOfLines sigs → index_of (terms_of sigs) name ≡ Some k → (at : Pos) × (signature_named sigs name ≡ Some (line_signature name at))
declaration_named [] name k h e = absurd cc
declaration_named (s ∷ sigs) name k h e = first_named s name k (bytes_eq s.term name) (index_of (terms_of sigs) name) (signature_named sigs name) h.0 refl (λ m is. declaration_named sigs name m h.1 is) e

-- ---- rules

-- a name has a rule if one of the lines is one
pub ruled_by : (name : List ℕ) (at : ℕ) (ls : List Line) → has_rule (rule_defs (defs_at at ls)) name ≡ list_any (rules_name name) ls
ruled_by name at [] = refl
ruled_by name at (Declares i ∷ ls) = ruled_by name (at + length (line_text (Declares i))) ls
ruled_by name at (Gives i a b ∷ ls) = ap (λ r. bytes_eq (term_name i) name || r) (ruled_by name (at + length (line_text (Gives i a b))) ls)
ruled_by name at (Otherwise i ∷ ls) = ap (λ r. bytes_eq (term_name i) name || r) (ruled_by name (at + length (line_text (Otherwise i))) ls)
