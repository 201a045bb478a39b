-- What an emitted function is to its term and its block.
use Rattle.std.specs.Prelude.{◌≡◌, ℕ, List, [], ◌∷◌, false, IsTrue, IsSome, Option, Some, option_map, slice_get}
use Rattle.std.specs.List.{AllByRecursion, list_all}
use Rattle.isle_printer.specs.Token.{is_word_byte}
use Rattle.isle_core.specs.declared.options.CodegenOptions.{CodegenOptions}
use Rattle.isle_core.specs.declared.types.Term.{Term}
use Rattle.isle_core.specs.Value.{Value, Made, End, Ran}
use Rattle.isle_core.specs.Meaning.{Meaning}
use Rattle.isle_core.specs.Space.{space_of}
use Rattle.isle_core.specs.HasType.{HaveTypes}
use Rattle.isle_core.specs.declared.rule_sets.Binding.{Binding}
use Rattle.isle_core.specs.declared.rule_sets.Binding.TheVariants as binding
use Rattle.isle_core.specs.CalledTerms.{Extractor}
use Rattle.isle_core.specs.Lawful.{AnswersFit, RoleFits}
use Rattle.isle_core.specs.Calling.{ByCases, calling, extracting, kind_of}
use Rattle.isle_core.specs.declared.types.ReturnKind.{ReturnKind}
use Rattle.isle_core.specs.Outcome.{Prescription}
use Rattle.isle_core.specs.Path.{paths_of}
use Rattle.isle_core.specs.Block.{Block}
use Rattle.isle_core.specs.BlockRun.{block_outcome}
use Rattle.isle_core.specs.Cut.{cut_run}
use Rattle.isle_core.specs.SeveralRun.{several_outcome}
use Rattle.isle_core.specs.declared.BindingId.{BindingId}
use Rattle.isle_core.specs.declared.TermId.{TermId}
use Rattle.isle_core.specs.declared.values.Callee.{Callee}
use Rattle.isle_core.specs.Terms.{sym_text, is_impure, impure_calls}
use Rattle.isle_core.specs.Rule.{Environment}
use Rattle.isle_core.specs.Having.{const_of}
use Rattle.isle_core.specs.NamesApart.{ValuesConstants}
use Rattle.isle_core.specs.Nameless.{nameless_ran}
use Rattle.isle_spelling.specs.Identifier.{IsIdentifier}
use Rattle.isle_simulation.specs.TypeTexts.{type_text}
use Rattle.isle_tree.specs.Program.{Function, Program}
use Rattle.isle_tree.specs.Run.{Around, ended, function_of, nothing_done, run, run_body}
use Rattle.isle_simulation.specs.Ends.{end_of}
use Rattle.isle_simulation.specs.Statements.{callee_of}

-- a term whose name may be emitted, and whose types have names of Rust
pub record IsEmittable (env : Environment) (t : Term) : Type 0 where
  pub name : IsTrue (list_all is_word_byte (sym_text env t.name))
  pub types : AllByRecursion (λ ty. IsIdentifier (type_text env ty)) (t.ret_ty ∷ t.arg_tys)

-- an end with these calls
abbrev pub ran_with : List Made → End → Ran
ran_with calls end = record { end = end; calls = calls }

-- what a run of a term's function gives that has this outcome
abbrev pub ran_of : Term → Prescription → Option Ran
ran_of t o = option_map (ran_with o.calls) (end_of (kind_of t.kind) o.result)

-- the meaning answers each call among the bindings, of a constructor or an extractor, with its kind and its types, and each constant among them has a value
abbrev pub AnswersBindings : Environment → Meaning → List Binding → Type 0
AnswersBindings env m [] = Unit {0}
AnswersBindings env m (binding.Constructor term parameters instance ∷ bs) = AnswersFit env m term × AnswersBindings env m bs
AnswersBindings env m (binding.ConstBool val ty ∷ bs) = AnswersBindings env m bs
AnswersBindings env m (binding.ConstInt val ty ∷ bs) = AnswersBindings env m bs
AnswersBindings env m (binding.ConstPrim val ∷ bs) = IsSome (const_of m (sym_text env val)) × AnswersBindings env m bs
AnswersBindings env m (binding.Argument index ∷ bs) = AnswersBindings env m bs
AnswersBindings env m (binding.Extractor term parameter ∷ bs) = RoleFits env m term Extractor × AnswersBindings env m bs
AnswersBindings env m (binding.Iterator source ∷ bs) = AnswersBindings env m bs
AnswersBindings env m (binding.MakeVariant ty variant fields ∷ bs) = AnswersBindings env m bs
AnswersBindings env m (binding.MakeStruct ty fields ∷ bs) = AnswersBindings env m bs
AnswersBindings env m (binding.MatchVariant source variant field ∷ bs) = AnswersBindings env m bs
AnswersBindings env m (binding.ExtractStruct source field ∷ bs) = AnswersBindings env m bs
AnswersBindings env m (binding.MakeSome inner ∷ bs) = AnswersBindings env m bs
AnswersBindings env m (binding.MatchSome source ∷ bs) = AnswersBindings env m bs
AnswersBindings env m (binding.MatchTuple source field ∷ bs) = AnswersBindings env m bs

-- no extractor among the bindings is the function of an impure term
abbrev pub HasPureExtractors : Environment → List Binding → Type 0
HasPureExtractors env bs = (b : ℕ) (term : TermId) (parameter : BindingId) (callee : Callee) → slice_get bs b ≡ Some (binding.Extractor term parameter) → callee_of (extracting env term) ≡ Some callee → is_impure env callee ≡ false

-- no pure term's constructor is the function of an impure term
abbrev pub HasPureConstructors : Environment → Type 0
HasPureConstructors env = (term : TermId) (callee : Callee) (kind : ReturnKind) → calling env term ≡ ByCases callee kind → is_impure env callee ≡ false

-- a run with the calls of impure terms alone
abbrev pub impure_ran : Environment → Ran → Ran
impure_ran env r = record { end = r.end; calls = impure_calls env r.calls }

-- a run is the same as another but for the type names of opaque numbers and its calls of pure terms
abbrev pub AreSameRuns : Environment → Option Ran → Option Ran → Type 0
AreSameRuns env r q = option_map (λ (x : Ran). nameless_ran (impure_ran env x)) r ≡ option_map nameless_ran q

-- in every program in which the function of a term that answers at most once is this, its run on well-typed arguments is the block's, but for calls
-- of pure terms, under every meaning that answers its calls and gives constants values of their types
abbrev pub RunsAsBlock : Environment → Term → List Binding → Block → Function → Type 0
RunsAsBlock env t bs b f = (p : Program) (args : List Value) (m : Meaning) (held : ℕ)
    → function_of (sym_text env t.name) p.fns ≡ Some f → HaveTypes env args t.arg_tys → AnswersBindings env m bs → ValuesConstants env m
    → AreSameRuns env (run p (sym_text env t.name) args m held) (ran_of t (block_outcome env m args (paths_of bs) b (kind_of t.kind)))

-- so of a term that answers several times: the function appends the first results of the block, as many as there is room for and at least one, and
-- makes the calls up to the last of them, or all if the room isn't used up
abbrev pub RunsAsSeveral : CodegenOptions → Environment → Term → List Binding → Block → Function → Type 0
RunsAsSeveral options env t bs b f = (p : Program) (args : List Value) (m : Meaning) (held : ℕ)
    → function_of (sym_text env t.name) p.fns ≡ Some f → HaveTypes env args t.arg_tys → AnswersBindings env m bs → ValuesConstants env m
    → AreSameRuns env (run p (sym_text env t.name) args m held) (Some (cut_run (space_of options held) (several_outcome env m args (paths_of bs) b)))

-- what a function gives in its surroundings: its end, and all calls that it makes
abbrev pub body_run : Around → Function → Option Ran
body_run w f = ended f.kind (run_body w f.body [] nothing_done)

-- two functions run alike: everywhere, whatever their lists of results hold at entry, they have the same end, and make the same calls
abbrev pub RunAlike : Function → Function → Type 0
RunAlike f g = (w : Around) → body_run w f ≡ body_run w g
