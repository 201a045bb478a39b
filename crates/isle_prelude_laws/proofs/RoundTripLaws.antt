-- The round trip of instructions, over the environment of a supported table's definitions.
use Rattle.std.proofs.Common.{◌≡◌, List, Bool, true, false, Option, refl, sym, ap, ◌∙◌, subst, inl, inr}
use Rattle.std.specs.Prelude.{IsSomeAnd, slice_get}
use Rattle.isle_base.specs.declared.ids.TermId.{TermId}
use Rattle.isle_base.specs.declared.ids.VariantId.{VariantId}
use Rattle.isle_core.specs.declared.types.Term.{Term}
use Rattle.isle_core.specs.CalledTerms.{Extractor, is_made}
use Rattle.isle_core.specs.HasType.{HaveTypes}
use Rattle.isle_core.specs.Lawful.{RoleFits}
use Rattle.isle_core.specs.Meaning.{Meaning}
use Rattle.isle_core.specs.Pattern.{Pattern}
use Rattle.isle_core.specs.PatternType.{AreVariantsApart}
use Rattle.isle_core.specs.Rule.{Environment}
use Rattle.isle_core.specs.Value.{Value, Made}
use Rattle.isle_core.proofs.OptionLaws.{some_same}
use Rattle.isle_ast.specs.Tree.{Def}
use Rattle.isle_table_check.specs.SupportedTables.{AreSupported}
use Rattle.isle_meta.specs.declared.clif.Instruction.{Instruction}
use Rattle.isle_meta.specs.declared.clif.InstructionFormat.{InstructionFormat}
use Rattle.isle_meta.specs.declared.tables.Tables.{Tables}
use Rattle.isle_prelude.specs.ClifFiles.{parameters}
use Rattle.isle_prelude.specs.InstructionParts.{template}
use Rattle.isle_prelude.specs.Manners.{Manner}
use Rattle.isle_sema.specs.Typing.{Typed}
use Rattle.isle_sema.proofs.TypedParts.{given_in}
use Rattle.isle_types.proofs.SoundTypes.{typed_names}
use Rattle.isle_terms.specs.Whole.{whole_of}
use Rattle.isle_prelude_laws.specs.HonestMeaning.{IsHonest}
use Rattle.isle_prelude_laws.specs.RoundTrip.{AreOptSource, IsInstruction, result_type, IsMadeOf, BindsExactly, NeverMatches, IsReadBack, IsToldApart, AnswersPattern, MayBeHonest}
use Rattle.isle_prelude_laws.proofs.Extracted.{IsMadeOr, extracted_so}
use Rattle.isle_prelude_laws.proofs.Gives.{made_term}
use Rattle.isle_prelude_laws.proofs.InstructionTexts.{plain_template}
use Rattle.isle_prelude_laws.proofs.Mirrored.{IsVariantTerm}
use Rattle.isle_prelude_laws.proofs.HonestExists.{plan_holds}
use Rattle.isle_prelude_laws.proofs.Laid.{manner_by, IsLaid}
use Rattle.isle_prelude_laws.proofs.LaidApart.{AreDifferent, laid_apart}
use Rattle.isle_prelude_laws.proofs.LaidBack.{laid_back}
pub use Rattle.isle_prelude_laws.proofs.LaidOut.{instruction_there}
use Rattle.isle_prelude_laws.proofs.LaidOut.{laid_out, one_term}
use Rattle.isle_prelude_laws.proofs.NamedTrees.{Numbers}
use Rattle.isle_prelude_laws.proofs.PassedTrees.{numbers}
use Rattle.isle_prelude_laws.proofs.Plan.{planned}
use Rattle.isle_prelude_laws.proofs.PlanOut.{plan_out}

-- under an honest meaning the extractor of each instruction binds exactly the operands of which its constructor made the value
pub instruction_read_back : (t : Tables) (defs : List Def) (like : AreOptSource t defs) (env : Environment) (i : Instruction) (term : TermId) → AreSupported t
    → Typed defs env → IsInstruction t env i term → IsReadBack defs env term
instruction_read_back t defs like env i term supported typed h m operands made v honest given =
    let l = laid_out t defs like env i term supported typed h in
    subst (λ (o : Option Pattern). IsSomeAnd o (BindsExactly env m v operands)) (sym l.whole) (laid_back env (numbers (whole_of defs)) l.format i l.is_valued term l.pattern l.laid m operands made v honest given)

-- results of one type are of one manner
one_manner : (a b : Bool) → (manner_by a).ret ≡ (manner_by b).ret → b ≡ a
one_manner true true h = refl
one_manner false false h = refl
one_manner true false h = absurd cc
one_manner false true h = absurd cc

-- of two instructions of one manner
laid_told : (env : Environment) (number : Numbers) (f g : InstructionFormat) (i j : Instruction) (a b : Bool) (term other : TermId) (p q : Pattern)
    → b ≡ a → (one : IsLaid env number f i a term p) (two : IsLaid env number g j b other q) → AreDifferent one two → AreVariantsApart env
    → (m : Meaning) (operands : List Value) (made : List Made) (v : Value) → IsHonest env m term operands made → IsMadeOf env m term operands made v → NeverMatches env m v q
laid_told env number f g i j true true term other p q same one two differ variants = laid_apart env number f g i j true term other p q one two differ variants
laid_told env number f g i j false false term other p q same one two differ variants = laid_apart env number f g i j false term other p q one two differ variants
laid_told env number f g i j true false term other p q same one two differ variants = absurd cc
laid_told env number f g i j false true term other p q same one two differ variants = absurd cc

-- under an honest meaning the extractor of no other instruction of that result type matches what the constructor made
pub instructions_told_apart : (t : Tables) (defs : List Def) (like : AreOptSource t defs) (env : Environment) (i j : Instruction) (term other : TermId) → AreSupported t
    → Typed defs env → IsInstruction t env i term → IsInstruction t env j other → result_type i ≡ result_type j → (term ≡ other → ⊥)
    → IsToldApart defs env term other
instructions_told_apart t defs like env i j term other supported typed h k same differ m operands made v honest given =
    let g = given_in typed in
    let one = laid_out t defs like env i term supported typed h in
    let two = laid_out t defs like env j other supported typed k in
    let number = numbers (whole_of defs) in
    let valued : two.is_valued ≡ one.is_valued = one_manner one.is_valued two.is_valued (ap (λ (x : Manner). x.ret) (sym one.manner) ∙ same ∙ ap (λ (x : Manner). x.ret) two.manner) in
    let opcodes : two.laid.opcodes ≡ one.laid.opcodes = some_same two.laid.opcodes one.laid.opcodes (sym two.opcodes ∙ one.opcodes) in
    let places : one.laid.place ≡ two.laid.place → ⊥ = λ e.
    let is : i ≡ j = some_same i j (sym one.place ∙ ap (λ (x : VariantId). slice_get t.instructions x.0) e ∙ two.place) in
    differ (one_term defs env term other one.laid.decl two.laid.decl typed one.laid.there two.laid.there (h.named ∙ ap (λ (x : Instruction). x.name) is ∙ sym k.named)) in
    let variants = (typed_names defs env g.types g.types_kept).variants in
    subst (λ (o : Option Pattern). IsSomeAnd o (NeverMatches env m v)) (sym two.whole)
    (laid_told env number one.format two.format i j one.is_valued two.is_valued term other one.pattern two.pattern valued one.laid two.laid (opcodes, places) variants m operands made v honest given)

made_is : (env : Environment) (a : TermId) → IsVariantTerm env a → is_made env a ≡ true
made_is env a k = made_term (slice_get env.terms a.0) k.ty k.variant k.made

-- for all operands of its types a lawful honest meaning exists, under which its constructor makes a value
pub instruction_may_be_honest : (t : Tables) (defs : List Def) (like : AreOptSource t defs) (env : Environment) (i : Instruction) (term : TermId) → AreSupported t
    → Typed defs env → IsInstruction t env i term → MayBeHonest defs env term
instruction_may_be_honest t defs like env i term supported typed h operands has_types =
    let l = laid_out t defs like env i term supported typed h in
    let own : HaveTypes env operands l.laid.decl.arg_tys = subst (λ (o : Option Term). IsSomeAnd o (λ (c : Term). HaveTypes env operands c.arg_tys)) l.laid.there has_types in
    let p = plan_out t defs like env i term supported typed h l operands own in
    let number = numbers (whole_of defs) in
    let fits : TermId → Type 0 = λ a. RoleFits env (planned p.0) a Extractor in
    let each = plain_template (IsMadeOr env number fits) l.is_valued l.format i l.laid.listless (λ a is. inl (made_is env a (l.laid.data_made a is))) (λ a is. inl (made_is env a (record { ty = l.laid.opcodes; variant = l.laid.place; made = l.laid.opcode_made a is })))
    (λ w has a is. inr (p.1.answers w has a is)) in
    let answers : AnswersPattern env (planned p.0) l.pattern = λ o c.
    let e = extracted_so env number (parameters (manner_by l.is_valued) i) fits (template (manner_by l.is_valued) l.format i) l.pattern each l.laid.taken o c in
    subst (RoleFits env (planned p.0) o.term) (sym e.1) e.0 in
    (planned p.0, plan_holds env term operands p.0 p.1.plan defs (subst (λ (o : Option Pattern). IsSomeAnd o (AnswersPattern env (planned p.0))) (sym l.whole) answers))
