-- What the round trip of an instruction is: what its constructor made is taken apart by its extractor into exactly the operands, and by no other
-- extractor of that result.
use Rattle.std.specs.Prelude.{◌≡◌, ℕ, List, ◌++◌, Option, Some, None, false, ◌||◌, Contains, IsSomeAnd, slice_get, length, ◌<◌}
use Rattle.isle_base.specs.declared.ids.TermId.{TermId}
use Rattle.isle_core.specs.declared.types.ReturnKind.TheVariants as return_kind
use Rattle.isle_core.specs.declared.types.Term.{Term}
use Rattle.isle_core.specs.Choice.{Choice, first_items}
use Rattle.isle_core.specs.HasType.{HaveTypes}
use Rattle.isle_core.specs.CalledTerms.{CalledTerm, extracted_by}
use Rattle.isle_core.specs.Lawful.{CalledTermFits, IsLawful}
use Rattle.isle_core.specs.Match.{Names, no_names, matches}
use Rattle.isle_core.specs.Meaning.{Meaning}
use Rattle.isle_core.specs.Outcome.{Value', Prescription, Prescribed}
use Rattle.isle_core.specs.Path.{Path}
use Rattle.isle_core.specs.Pattern.{Pattern}
use Rattle.isle_core.specs.Rule.{Environment, rules_of}
use Rattle.isle_core.specs.Terms.{term_name}
use Rattle.isle_core.specs.Value.{Value, Made}
use Rattle.isle_ast.specs.Tree.{Def}
use Rattle.isle_meta.specs.declared.clif.Instruction.{Instruction}
use Rattle.isle_meta.specs.declared.clif.InstructionFormat.{InstructionFormat}
use Rattle.isle_meta.specs.declared.tables.Tables.{Tables}
use Rattle.isle_prelude.specs.ClifFiles.{opt_defs}
use Rattle.isle_prelude.specs.Manners.{optimized}
use Rattle.isle_prelude.specs.WrittenPrelude.{written_defs}
use Rattle.isle_sema.specs.Templates.{templates}
use Rattle.isle_templates.specs.Substituted.{template_of, whole_templates}
use Rattle.isle_terms.specs.Whole.{whole_of}
use Rattle.isle_writing.specs.Erased.{all_erased}
use Rattle.isle_prelude_laws.specs.HonestMeaning.{IsHonest}

-- ---- instructions of an optimizer's file

-- the definitions of an optimizer: those written by hand, and those of its instructions
abbrev pub opt_source : Tables → List Def
opt_source t = written_defs t ++ opt_defs t

-- definitions that are those of an optimizer, at whatever places
abbrev pub AreOptSource : Tables → List Def → Type 0
AreOptSource t defs = all_erased defs ≡ all_erased (opt_source t)

-- an instruction of the table that the file takes, and its term
pub record IsInstruction (t : Tables) (env : Environment) (i : Instruction) (term : TermId) : Type 0 where
  pub among : Contains t.instructions i
  pub format : InstructionFormat
  pub is : slice_get t.formats i.format ≡ Some format
  pub listless : format.has_value_list ≡ false
  pub there : term.0 < length env.terms
  pub named : term_name env term ≡ i.name

-- the type that it gives
abbrev pub result_type : Instruction → List ℕ
result_type i = (optimized i.value_results (i.can_trap || i.other_side_effects)).ret

-- the pattern that stands for a use of its extractor on its parameters, numbered by their places
abbrev pub extractor_pattern : List Def → TermId → Option Pattern
extractor_pattern defs term = template_of (whole_templates (templates (whole_of defs))) term

-- ---- the round trip

-- the value is what the term's constructor makes of the operands, after the calls made before
abbrev pub IsMadeOf : Environment → Meaning → TermId → List Value → List Made → Value → Type 0
IsMadeOf env m term operands made v = (p : Prescription) × Prescribed env m operands (rules_of env term) return_kind.Plain made p × (p.result ≡ Value' v)

-- the pattern matches the value with the first item of each list, and with whatever items it matches, it binds exactly the operands
pub record BindsExactly (env : Environment) (m : Meaning) (v : Value) (operands : List Value) (pattern : Pattern) : Type 0 where
  pub matched : (at : Path) → (names : Names) × (matches env m first_items pattern at v no_names ≡ Some names)
  pub exact : (choice : Choice) (at : Path) (names : Names) → matches env m choice pattern at v no_names ≡ Some names
      → (k : ℕ) → names k ≡ slice_get operands k

-- the pattern doesn't match the value, with whatever items
abbrev pub NeverMatches : Environment → Meaning → Value → Pattern → Type 0
NeverMatches env m v pattern = (choice : Choice) (at : Path) (names : Names) → matches env m choice pattern at v names ≡ None

-- under an honest meaning the instruction's extractor binds exactly the operands of which its constructor made the value
abbrev pub IsReadBack : List Def → Environment → TermId → Type 0
IsReadBack defs env term =
    (m : Meaning) (operands : List Value) (made : List Made) (v : Value) → IsHonest env m term operands made → IsMadeOf env m term operands made v
    → IsSomeAnd (extractor_pattern defs term) (BindsExactly env m v operands)

-- under an honest meaning another instruction's extractor doesn't match what the instruction's constructor made
abbrev pub IsToldApart : List Def → Environment → (term other : TermId) → Type 0
IsToldApart defs env term other =
    (m : Meaning) (operands : List Value) (made : List Made) (v : Value) → IsHonest env m term operands made → IsMadeOf env m term operands made v
    → IsSomeAnd (extractor_pattern defs other) (NeverMatches env m v)

-- the meaning answers each extractor that the pattern calls, with its kind and types
abbrev pub AnswersPattern : Environment → Meaning → Pattern → Type 0
AnswersPattern env m pattern = (o : CalledTerm) → Contains (extracted_by env pattern) o → CalledTermFits env m o

-- a meaning that is lawful for the term, its extractor's pattern too, and honest on these operands, under which its constructor makes a value of them
pub record IsHonestlyMade (defs : List Def) (env : Environment) (term : TermId) (operands : List Value) (made : List Made) (m : Meaning) : Type 0 where
  pub lawful : IsLawful env term m
  pub answers : IsSomeAnd (extractor_pattern defs term) (AnswersPattern env m)
  pub honest : IsHonest env m term operands made
  pub value : Value
  pub gives : IsMadeOf env m term operands made value

-- for all operands of the term's types there is such a meaning, whatever calls were made before
abbrev pub MayBeHonest : List Def → Environment → TermId → Type 0
MayBeHonest defs env term =
    (operands : List Value) → IsSomeAnd (slice_get env.terms term.0) (λ (c : Term). HaveTypes env operands c.arg_tys)
    → (m : Meaning) × ((made : List Made) → IsHonestlyMade defs env term operands made m)
