-- What an emitted text is to the definitions that it was made from.
use Rattle.std.specs.Prelude.{◌≡◌, ℕ, List, [], map, Some, Contains, option_map, slice_get, IsSomeAnd}
use Rattle.isle_base.specs.declared.ids.TermId.{TermId}
use Rattle.isle_base.specs.declared.ids.TypeId.{TypeId}
use Rattle.isle_core.specs.declared.types.ReturnKind.{ReturnKind}
use Rattle.isle_core.specs.declared.types.ReturnKind.TheVariants as return_kind
use Rattle.isle_core.specs.declared.types.Term.{Term}
use Rattle.isle_core.specs.declared.options.CodegenOptions.{CodegenOptions}
use Rattle.isle_core.specs.declared.files.Files.{Files}
use Rattle.isle_core.specs.Value.{Value, Ran}
use Rattle.isle_core.specs.Meaning.{Meaning}
use Rattle.isle_core.specs.Space.{space_of}
use Rattle.isle_core.specs.Cut.{cut_run}
use Rattle.isle_core.specs.HasType.{HaveTypes}
use Rattle.isle_core.specs.Lawful.{IsLawful}
use Rattle.isle_core.specs.Nameless.{nameless_made, nameless_end}
use Rattle.isle_core.specs.Outcome.{Prescription, Prescribed, kind_of}
use Rattle.isle_core.specs.Pairs.{PrescribesSeveral}
use Rattle.isle_core.specs.Parts.{Given}
use Rattle.isle_core.specs.Rule.{Environment, rules_of}
use Rattle.isle_core.specs.Terms.{with_rules, term_name, impure_calls}
use Rattle.isle_ast.specs.Tree.{Def}
use Rattle.isle_tree.specs.Program.{Function, Program}
use Rattle.isle_target.specs.Reading.{SpellsOnly}
use Rattle.isle_tree.specs.Run.{run}
use Rattle.isle_codegen.specs.Emission.{IsFrame}
use Rattle.isle_simulation.specs.Emitted.{AreSameRuns}
use Rattle.isle_simulation.specs.Ends.{end_of}
use Rattle.isle_simulation.specs.OfTerm.{AreDeclared}
use Rattle.isle_codegen.specs.Asking.{AsksPaths}
use Rattle.isle_codegen.specs.FromBlock.{AreFromBlocks}
use Rattle.isle_codegen.specs.Inhabited.{IsInhabited}
use Rattle.isle_codegen.specs.LawfulEnvironment.{IsLawfulEnvironment}
use Rattle.isle_codegen.specs.Meant.{HasValue, IsMeant}

-- a run gives what is prescribed, but for the type names of opaque numbers: its end, and the calls of impure terms in order
pub record GivesAs (env : Environment) (kind : ReturnKind) (o : Prescription) (r : Ran) : Type 0 where
  pub end : option_map nameless_end (end_of kind o.result) ≡ Some (nameless_end r.end)
  pub calls : map nameless_made (impure_calls env r.calls) ≡ map nameless_made o.calls

-- the run of the term's function gives the one outcome that its rules prescribe
pub record GivesOutcome (env : Environment) (p : Program) (id : TermId) (t : Term) (args : List Value) (m : Meaning) (held : ℕ) : Type 0 where
  pub outcome : Prescription
  pub prescribed : Prescribed env m args (rules_of env id) (kind_of t.kind) [] outcome
  pub only : (other : Prescription) → Prescribed env m args (rules_of env id) (kind_of t.kind) [] other → other ≡ outcome
  pub given : IsSomeAnd (run p (term_name env id) args m held) (GivesAs env (kind_of t.kind) outcome)

-- the run of the function of a term that answers several times gives the first of the results that its rules prescribe, as many as there is
-- room for and at least one, and the calls of impure terms up to the last of them, or all if the room isn't used up
pub record GivesFirst (options : CodegenOptions) (env : Environment) (p : Program) (id : TermId) (args : List Value) (m : Meaning) (held : ℕ) : Type 0 where
  pub given : Given
  pub prescribed : PrescribesSeveral env m args (rules_of env id) given
  pub runs : AreSameRuns env (run p (term_name env id) args m held) (Some (cut_run (space_of options held) given))

-- the run gives what the rules prescribe of a term that answers so often
abbrev pub GivesRules : CodegenOptions → ReturnKind → Environment → Program → TermId → Term → List Value → Meaning → (held : ℕ) → Type 0
GivesRules options return_kind.Plain env p id t args m held = GivesOutcome env p id t args m held
GivesRules options return_kind.Option env p id t args m held = GivesOutcome env p id t args m held
GivesRules options return_kind.Iterator env p id t args m held = GivesFirst options env p id args m held

-- it does so on all well-typed arguments, under every lawful meaning, and whatever length the list of results has at entry
abbrev pub MeansRules : CodegenOptions → Environment → Program → TermId → Type 0
MeansRules options env p id = IsSomeAnd (slice_get env.terms id.0) (λ (t : Term).
    (args : List Value) (m : Meaning) (held : ℕ) → HaveTypes env args t.arg_tys → IsLawful env id m
    → GivesRules options (kind_of t.kind) env p id t args m held)

-- the functions of the program are the terms with rules, in order of ids, each as its term is declared, made from a block
-- of its rules, and with their meaning, which says something: there are arguments and lawful meanings if types have values,
-- as inhabited ones do; a run of one without loops asks no more than its term's rules have paths
pub record FunctionsMean (options : CodegenOptions) (files : Files) (env : Environment) (p : Program) : Type 0 where
  pub names : map (λ (f : Function). f.term) p.fns ≡ map (term_name env) (with_rules env)
  pub declared : AreDeclared files env (with_rules env) p.fns
  pub blocks : AreFromBlocks options files env (with_rules env) p.fns
  pub mean : (id : TermId) → Contains (with_rules env) id → MeansRules options env p id
  pub meant : (id : TermId) → Contains (with_rules env) id → IsMeant env id
  pub values : (ty : TypeId) → IsInhabited env ty → HasValue env ty
  pub asks : (id : TermId) → Contains (with_rules env) id → AsksPaths env p id

-- the text spells exactly one program, whose frame and functions are those of the environment
pub record IsText (options : CodegenOptions) (files : Files) (env : Environment) (text : List ℕ) : Type 0 where
  pub program : Program
  pub spells : SpellsOnly text program
  pub frame : IsFrame options env program
  pub functions : FunctionsMean options files env program

-- the text is that of the lawful environment of the definitions, which stand in the files
pub record HasHeadline (options : CodegenOptions) (files : Files) (defs : List Def) (text : List ℕ) : Type 0 where
  pub env : Environment
  pub lawful : IsLawfulEnvironment files.file_names defs env
  pub is_text : IsText options files env text

-- the text spells exactly one program
abbrev pub SpellsOne : List ℕ → Type 0
SpellsOne text = (p : Program) × SpellsOnly text p
