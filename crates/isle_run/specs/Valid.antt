-- When a term of a source may be run under the answers of a text.
use Rattle.std.specs.Prelude.{◌≡◌, ℕ, List, [], ◌∷◌, ◌++◌, Bool, true, false, Some, Contains, slice_get}
use Rattle.std.specs.List.{AllByRecursion}
use Rattle.std.specs.Str.{bytes_eq}
use Rattle.isle_core.specs.declared.Sym.{Sym}
use Rattle.isle_core.specs.declared.TermId.{TermId}
use Rattle.isle_core.specs.declared.TypeId.{TypeId}
use Rattle.isle_core.specs.declared.files.Files.{Files}
use Rattle.isle_core.specs.declared.options.CodegenOptions.{CodegenOptions}
use Rattle.isle_core.specs.declared.types.ReturnKind.{ReturnKind}
use Rattle.isle_core.specs.declared.types.Term.{Term}
use Rattle.isle_core.specs.declared.types.TermKind.{TermKind}
use Rattle.isle_core.specs.declared.types.TermKind.TheVariants as term_kind
use Rattle.isle_core.specs.declared.values.Callee.{Callee}
use Rattle.isle_core.specs.declared.values.Callee.TheVariants as callee
use Rattle.isle_core.specs.Calling.{kind_of}
use Rattle.isle_core.specs.HasType.{HasType, HaveTypes}
use Rattle.isle_core.specs.Lawful.{Fits}
use Rattle.isle_core.specs.Meaning.{PureAnswers, TurnAnswers, Meaning}
use Rattle.isle_core.specs.Rule.{Environment}
use Rattle.isle_core.specs.Terms.{sym_text, goes_to}
use Rattle.isle_core.specs.Value.{Value, Answer}
use Rattle.isle_answers.specs.Form.{Form}
use Rattle.isle_answers.specs.Spelling.{SpellsForms}
use Rattle.isle_values.specs.Written.{Writtens}
use Rattle.isle_simulation.specs.TraitFns.{func_of, extracted_of}
use Rattle.isle_tree.specs.Calls.{body_calls}
use Rattle.isle_tree.specs.Program.{Function, Program}
use Rattle.isle_tree.specs.Run.{function_of}
use Rattle.isle_operand_names.specs.Occurring.{occurs}
use Rattle.isle_interpreter.specs.Apart.{IsApart}
use Rattle.isle_interpreter.specs.Entries.{has_constant, FitsPlaces}
use Rattle.isle_places.specs.Places.{StandsAt}
use Rattle.isle_run_inputs.specs.Requested.{requested_term, constant_type}
use Rattle.isle_run_inputs.specs.Asked.{Asked, constructor_types, extractor_types}
use Rattle.isle_run_inputs.specs.AnswersAt.{constants_at, cases_at, turns_at, answers_at}
use Rattle.isle_codegen.specs.Checked.{IsChecked}
use Rattle.isle_run.specs.Attempt.{Attempt}
use Rattle.isle_run.specs.Conforming.{Conforms}
use Rattle.isle_run.specs.LeftOut.{leave_out}
use Rattle.isle_run.specs.Trial.{args_given}

-- whether a term is declared pure; a made one isn't
abbrev pub is_pure : TermKind → Bool
is_pure (term_kind.Decl pure multi partial recursive by how) = pure
is_pure (term_kind.Variant ty variant) = false
is_pure (term_kind.Struct ty) = false

-- what calls go to: the external constructor of a term, or a term with rules
pub data IsServed (env : Environment) : Callee → Term → Type 0 where
  external : (i : ℕ) (t : Term) (func : Sym) → slice_get env.terms i ≡ Some t → func_of t.kind ≡ Some func → IsServed env (callee.External (sym_text env func)) t
  internal : (name : List ℕ) (id : TermId) (t : Term) → requested_term env name ≡ Some id → slice_get env.terms id.0 ≡ Some t → IsServed env (callee.Internal name) t

-- what is asked by cases, with its types, and how often it answers: the external extractor of a term, or what calls of a pure term go to
pub data IsAsked (env : Environment) : Callee → Asked → ReturnKind → Type 0 where
  extractor : (i : ℕ) (t : Term) (func : Sym) (often : ReturnKind) → slice_get env.terms i ≡ Some t → extracted_of t.kind ≡ Some (func, often) → IsAsked env (callee.External (sym_text env func)) (extractor_types t) often
  constructor : (c : Callee) (t : Term) → IsServed env c t → is_pure t.kind ≡ true → IsAsked env c (constructor_types t) (kind_of t.kind)

-- no cases of these are the callee's
abbrev pub HasNoCases : Callee → List PureAnswers → Type 0
HasNoCases c = AllByRecursion (λ (a : PureAnswers). goes_to c (Some a.callee) ≡ false)

-- no turns of these are
abbrev pub HasNoTurns : Callee → List TurnAnswers → Type 0
HasNoTurns c = AllByRecursion (λ (a : TurnAnswers). goes_to c (Some a.callee) ≡ false)

-- a case of a function is right: its arguments are of the types that the function takes, and its answer of the kind and the types of what
-- that gives
abbrev pub IsRightCase : Environment → Asked → ReturnKind → List Value × Answer → Type 0
IsRightCase env a kind c = HaveTypes env c.0 a.params × Fits env kind a.results c.1

-- cases after these are right: their callee is there and asked by cases, none of these is its, and each case and the rest are so
pub record AreRightCases (env : Environment) (earlier : List PureAnswers) (a : PureAnswers) : Type 0 where
  pub types : Asked
  pub kind : ReturnKind
  pub asked : IsAsked env a.callee types kind
  pub first : HasNoCases a.callee earlier
  pub cases : AllByRecursion (IsRightCase env types kind) a.cases
  pub rest : Fits env kind types.results a.rest

-- so of each
abbrev pub AllCasesRight : Environment → (earlier later : List PureAnswers) → Type 0
AllCasesRight env earlier [] = Unit {0}
AllCasesRight env earlier (a ∷ more) = AreRightCases env earlier a × AllCasesRight env (earlier ++ a ∷ []) more

-- turns after these, and beside cases, are right: their callee is that of an impure term, none of these and no cases are its, and each
-- answer is of its kind and type
pub record AreRightTurns (env : Environment) (cases : List PureAnswers) (earlier : List TurnAnswers) (a : TurnAnswers) : Type 0 where
  pub term : Term
  pub served : IsServed env a.callee term
  pub impure : is_pure term.kind ≡ false
  pub alone : HasNoCases a.callee cases
  pub first : HasNoTurns a.callee earlier
  pub turns : AllByRecursion (Fits env (kind_of term.kind) (term.ret_ty ∷ [])) a.turns
  pub rest : Fits env (kind_of term.kind) (term.ret_ty ∷ []) a.rest

-- so of each
abbrev pub AllRight : Environment → List PureAnswers → (earlier later : List TurnAnswers) → Type 0
AllRight env cases earlier [] = Unit {0}
AllRight env cases earlier (a ∷ more) = AreRightTurns env cases earlier a × AllRight env cases (earlier ++ a ∷ []) more

-- none of these values is of the constant of this name
abbrev pub HasNoValue : List ℕ → List (List ℕ × Value) → Type 0
HasNoValue name = AllByRecursion (λ (c : List ℕ × Value). bytes_eq name c.0 ≡ false)

-- a constant after these is right: none of these has its name, and its value is of its type
pub record IsRightConstant (env : Environment) (earlier : List (List ℕ × Value)) (c : List ℕ × Value) : Type 0 where
  pub first : HasNoValue c.0 earlier
  pub ty : TypeId
  pub named : constant_type env c.0 ≡ Some ty
  pub typed : HasType env c.1 ty

-- so of each
abbrev pub AreRightConstants : Environment → (earlier later : List (List ℕ × Value)) → Type 0
AreRightConstants env earlier [] = Unit {0}
AreRightConstants env earlier (c ∷ more) = IsRightConstant env earlier c × AreRightConstants env (earlier ++ c ∷ []) more

-- the answers are those that a program wants for a run of the term: each constant with a value stands in a function of it, and has a
-- value of each type that its places there have, which no other constant of its type in the term's function has; each that stands
-- in the term's function has a value, by the program and by the source; and so has each callee of that function cases or turns
pub record AreWanted (a : Attempt) (m : Meaning) : Type 0 where
  pub stand : AllByRecursion (λ (c : List ℕ × Value). has_constant a.program c.0 ≡ true) m.consts
  pub fit : AllByRecursion (λ (c : List ℕ × Value). FitsPlaces a.program c.0 c.1) m.consts
  pub apart : (f : Function) → function_of a.term a.program.fns ≡ Some f → AllByRecursion (λ (c : List ℕ × Value). IsApart a.program f m c.0) m.consts
  pub given : (f : Function) → function_of a.term a.program.fns ≡ Some f → (name ty : List ℕ) → StandsAt a.program f name ty → occurs a.program name ≡ false → HasNoValue name m.consts → ⊥
  pub kept : leave_out a m ≡ false
  pub answered : (f : Function) → function_of a.term a.program.fns ≡ Some f → (c : Callee) → Contains (body_calls f.body) c → HasNoCases c m.pure → HasNoTurns c m.turns → ⊥

-- the source was checked, the term has rules, the values are of its types, and the text spells forms that are right, and that
-- each program wants which conforms to the source under these options
pub record CanRun (options : CodegenOptions) (files : Files) (term : List ℕ) (ws : Writtens) (text : List ℕ) : Type 0 where
  pub env : Environment
  pub checked : IsChecked files env
  pub id : TermId
  pub requested : requested_term env term ≡ Some id
  pub declared : Term
  pub found : slice_get env.terms id.0 ≡ Some declared
  pub typed : HaveTypes env (args_given env term ws) declared.arg_tys
  pub forms : List Form
  pub spelt : SpellsForms text forms
  pub constants : AreRightConstants env [] (constants_at env forms)
  pub wanted : (p : Program) → Conforms options files env p → AreWanted (record { program = p; env = env; term = term; args = args_given env term ws }) (answers_at env forms)
  pub extracted : AllCasesRight env [] (cases_at env forms)
  pub right : AllRight env (cases_at env forms) [] (turns_at env forms)
