-- Two instructions of one result that are laid out so are told apart.
use Rattle.std.proofs.Common.{◌≡◌, ℕ, List, [], ◌∷◌, ◌++◌, Bool, true, false, Some, sym, ◌∙◌, subst}
use Rattle.isle_base.specs.declared.ids.TermId.{TermId}
use Rattle.isle_base.specs.declared.ids.TypeId.{TypeId}
use Rattle.isle_base.specs.declared.ids.VariantId.{VariantId}
use Rattle.isle_core.specs.Meaning.{Meaning}
use Rattle.isle_core.specs.Pattern as pattern
use Rattle.isle_core.specs.Pattern.{Pattern, Patterns, NoPattern, APattern}
use Rattle.isle_core.specs.PatternType.{AreVariantsApart}
use Rattle.isle_core.specs.Rule.{Environment}
use Rattle.isle_core.specs.Value.{Value, Made}
use Rattle.isle_core.proofs.OptionLaws.{some_same}
use Rattle.isle_ast.specs.Tree as tree
use Rattle.isle_ast.specs.Views.{patterns_of}
use Rattle.isle_meta.specs.InstructionRow.{is_raw_block}
use Rattle.isle_meta.specs.declared.clif.Instruction.{Instruction}
use Rattle.isle_meta.specs.declared.clif.InstructionFormat.{InstructionFormat}
use Rattle.isle_prelude.specs.ClifFiles.{variables, term_over, value_patterns, block_patterns, data_term, opcode_term, data_pattern, parameters}
use Rattle.isle_prelude.specs.InstructionParts.{template}
use Rattle.isle_prelude.specs.Manners.{type_variable}
use Rattle.isle_prelude.specs.Operands.{is_imm, names_of}
use Rattle.isle_prelude_laws.specs.HonestMeaning.{taker, IsHonest}
use Rattle.isle_prelude_laws.specs.RoundTrip.{IsMadeOf, NeverMatches}
use Rattle.isle_prelude_laws.proofs.Apart.{MakesThis, Apart, other_made, made_within, taken_within, SomeApart, first_apart, later_apart, apart_none}
use Rattle.isle_prelude_laws.proofs.Laid.{manner_by, whole_by, IsLaid}
use Rattle.isle_prelude_laws.proofs.LaidBack.{laid_read}
use Rattle.isle_prelude_laws.proofs.Mirrored.{IsVariantTerm}
use Rattle.isle_prelude_laws.proofs.NamedTrees.{Numbers, PatternNamed, PatternsNamed}

-- ---- texts of patterns

module _ (env : Environment) (number : Numbers) (params others : List (List ℕ)) where
  -- trees of the two texts are apart
  abbrev AreApart : tree.Pattern → tree.Pattern → Type 0
  AreApart p q = (x y : Pattern) → PatternNamed number params p x → PatternNamed number others q y → Apart env x y

  -- at some part
  abbrev SomeAreApart : tree.Patterns → tree.Patterns → Type 0
  SomeAreApart ps qs = (xs ys : Patterns) → PatternsNamed number params ps xs → PatternsNamed number others qs ys → SomeApart env xs ys

  term_apart : (name : List ℕ) (ps qs : tree.Patterns) → SomeAreApart ps qs → AreApart (tree.Term name ps) (tree.Term name qs)
  term_apart name ps qs inside x y p q =
      let same : p.1 ≡ q.1 = some_same p.1 q.1 (sym p.4 ∙ q.4) in
      let apart : Apart env (pattern.Term p.0 p.1 p.2) (pattern.Term q.0 q.1 q.2) = subst (λ (t : TermId). Apart env (pattern.Term p.0 p.1 p.2) (pattern.Term q.0 t q.2)) same (taken_within p.0 q.0 p.1 p.2 q.2 (inside p.2 q.2 p.5 q.5)) in
      subst (λ (z : Pattern). Apart env x z) (sym q.3) (subst (λ (z : Pattern). Apart env z (pattern.Term q.0 q.1 q.2)) (sym p.3) apart)

  variants_apart : (name other : List ℕ) (ps qs : tree.Patterns) → ((t : TermId) → number name ≡ Some t → IsVariantTerm env t)
      → ((t : TermId) → number other ≡ Some t → IsVariantTerm env t) → SomeAreApart ps qs
      → AreApart (tree.Term name ps) (tree.Term other qs)
  variants_apart name other ps qs k j inside x y p q =
      let apart : Apart env (pattern.Term p.0 p.1 p.2) (pattern.Term q.0 q.1 q.2) = made_within p.0 q.0 p.1 q.1 p.2 q.2 (k p.1 p.4) (j q.1 q.4) (inside p.2 q.2 p.5 q.5) in
      subst (λ (z : Pattern). Apart env x z) (sym q.3) (subst (λ (z : Pattern). Apart env z (pattern.Term q.0 q.1 q.2)) (sym p.3) apart)

  opcodes_apart : (name other : List ℕ) (made : TypeId) (a b : VariantId) (ps qs : tree.Patterns)
      → ((t : TermId) → number name ≡ Some t → MakesThis env t made a) → ((t : TermId) → number other ≡ Some t → MakesThis env t made b) → (a ≡ b → ⊥)
      → AreApart (tree.Term name ps) (tree.Term other qs)
  opcodes_apart name other made a b ps qs k j differ x y p q =
      let apart : Apart env (pattern.Term p.0 p.1 p.2) (pattern.Term q.0 q.1 q.2) = other_made p.0 q.0 made p.1 q.1 p.2 q.2 a b (k p.1 p.4) (j q.1 q.4) differ in
      subst (λ (z : Pattern). Apart env x z) (sym q.3) (subst (λ (z : Pattern). Apart env z (pattern.Term q.0 q.1 q.2)) (sym p.3) apart)

  at_first : (p q : tree.Pattern) (ps qs : tree.Patterns) → AreApart p q → SomeAreApart (tree.APattern p ps) (tree.APattern q qs)
  at_first p q ps qs apart xs ys r s =
      let both : SomeApart env (APattern r.0 r.1) (APattern s.0 s.1) = first_apart r.0 s.0 r.1 s.1 (apart r.0 s.0 r.3 s.3) in
      subst (λ (z : Patterns). SomeApart env xs z) (sym s.2) (subst (λ (z : Patterns). SomeApart env z (APattern s.0 s.1)) (sym r.2) both)

  at_later : (p q : tree.Pattern) (ps qs : tree.Patterns) → SomeAreApart ps qs → SomeAreApart (tree.APattern p ps) (tree.APattern q qs)
  at_later p q ps qs apart xs ys r s =
      let both : SomeApart env (APattern r.0 r.1) (APattern s.0 s.1) = later_apart r.0 s.0 r.1 s.1 (apart r.1 s.1 r.4 s.4) in
      subst (λ (z : Patterns). SomeApart env xs z) (sym s.2) (subst (λ (z : Patterns). SomeApart env z (APattern s.0 s.1)) (sym r.2) both)

-- ---- instructions

-- the parts of an instruction's data behind its opcode
abbrev other_parts : InstructionFormat → Instruction → List tree.Pattern
other_parts f i = value_patterns f.has_value_list i ++ (block_patterns i ++ (variables (names_of is_raw_block i) ++ variables (names_of is_imm i)))

-- two instructions have different opcodes of one type
abbrev pub AreDifferent : {env : Environment} {number : Numbers} {f g : InstructionFormat} {i j : Instruction} {a b : Bool} {term other : TermId} {p q : Pattern}
    → IsLaid env number f i a term p → IsLaid env number g j b other q → Type 0
AreDifferent one two = (two.opcodes ≡ one.opcodes) × (one.place ≡ two.place → ⊥)

data_apart : (env : Environment) (number : Numbers) (params others : List (List ℕ)) (f g : InstructionFormat) (i j : Instruction) (a b : Bool)
    (term other : TermId) (p q : Pattern) (one : IsLaid env number f i a term p) (two : IsLaid env number g j b other q)
    → AreDifferent one two → AreApart env number params others (data_pattern f i) (data_pattern g j)
data_apart env number params others f g i j a b term other p q one two differ =
    variants_apart env number params others (data_term f) (data_term g) (patterns_of (term_over (opcode_term i) [] ∷ other_parts f i)) (patterns_of (term_over (opcode_term j) [] ∷ other_parts g j)) one.data_made two.data_made
    (at_first env number params others (term_over (opcode_term i) []) (term_over (opcode_term j) []) (patterns_of (other_parts f i)) (patterns_of (other_parts g j))
    (opcodes_apart env number params others (opcode_term i) (opcode_term j) one.opcodes one.place two.place tree.NoPattern tree.NoPattern one.opcode_made
    (λ t is. subst (λ (ty : TypeId). MakesThis env t ty two.place) differ.0 (two.opcode_made t is)) differ.1))

extractors_apart : (env : Environment) (number : Numbers) (params others : List (List ℕ)) (f g : InstructionFormat) (i j : Instruction)
    (is_valued : Bool) (term other : TermId) (p q : Pattern) (one : IsLaid env number f i is_valued term p)
    (two : IsLaid env number g j is_valued other q)
    → AreDifferent one two → AreApart env number params others (template (manner_by is_valued) f i) (template (manner_by is_valued) g j)
extractors_apart env number params others f g i j true term other p q one two differ =
    term_apart env number params others (taker (whole_by true)) (patterns_of (tree.Var type_variable ∷ data_pattern f i ∷ [])) (patterns_of (tree.Var type_variable ∷ data_pattern g j ∷ []))
    (at_later env number params others (tree.Var type_variable) (tree.Var type_variable) (patterns_of (data_pattern f i ∷ [])) (patterns_of (data_pattern g j ∷ []))
    (at_first env number params others (data_pattern f i) (data_pattern g j) tree.NoPattern tree.NoPattern (data_apart env number params others f g i j true true term other p q one two differ)))
extractors_apart env number params others f g i j false term other p q one two differ =
    term_apart env number params others (taker (whole_by false)) (patterns_of (data_pattern f i ∷ [])) (patterns_of (data_pattern g j ∷ []))
    (at_first env number params others (data_pattern f i) (data_pattern g j) tree.NoPattern tree.NoPattern (data_apart env number params others f g i j false false term other p q one two differ))

-- what the constructor of the one makes isn't matched by the extractor of the other
pub laid_apart : (env : Environment) (number : Numbers) (f g : InstructionFormat) (i j : Instruction) (is_valued : Bool) (term other : TermId)
    (p q : Pattern) (one : IsLaid env number f i is_valued term p) (two : IsLaid env number g j is_valued other q)
    → AreDifferent one two → AreVariantsApart env → (m : Meaning) (operands : List Value) (made : List Made) (v : Value) → IsHonest env m term operands made → IsMadeOf env m term operands made v → NeverMatches env m v q
laid_apart env number f g i j is_valued term other p q one two differ variants m operands made v honest given =
    let r = laid_read env number f i is_valued term p one m operands made v honest given in
    apart_none variants r.read (extractors_apart env number (parameters (manner_by is_valued) i) (parameters (manner_by is_valued) j) f g i j is_valued term other p q one two differ p q one.taken two.taken)
