-- How terms are called, and how often the impure ones are in an expression.
use Rattle.std.specs.Prelude.{ℕ, suc, ◌+◌, Bool, true, false, Option, Some, None, slice_get}
use Rattle.isle_base.specs.declared.ids.TermId.{TermId}
use Rattle.isle_core.specs.declared.types.Term.{Term}
use Rattle.isle_core.specs.declared.types.TermKind.{TermKind}
use Rattle.isle_core.specs.declared.types.TermKind.TheVariants as term_kind
use Rattle.isle_core.specs.declared.types.ExtractorKind.{ExtractorKind}
use Rattle.isle_core.specs.declared.types.ExtractorKind.TheVariants as extractor
use Rattle.isle_core.specs.declared.values.Callee.{Callee}
use Rattle.isle_core.specs.declared.values.Callee.TheVariants.{External}
use Rattle.isle_core.specs.declared.types.ReturnKind.{ReturnKind}
use Rattle.isle_core.specs.declared.types.ReturnKind.TheVariants as return_kind
use Rattle.isle_core.specs.Expr as expr
use Rattle.isle_core.specs.Expr.{Expr, Exprs, NoExpr, AnExpr, LetBindings, NoBinding, ABinding}
use Rattle.isle_core.specs.Rule.{Environment}
use Rattle.isle_core.specs.Terms.{sym_text, callee_by, impure_callee}

-- how often a term with these flags answers: a `multi` one several times, a `partial` one at most once
abbrev pub kind_by : (multi partial : Bool) → ReturnKind
kind_by true partial = return_kind.Iterator
kind_by false true = return_kind.Option
kind_by false false = return_kind.Plain

-- how often a term answers; a made one does once
abbrev pub kind_of : TermKind → ReturnKind
kind_of (term_kind.Variant ty variant) = return_kind.Plain
kind_of (term_kind.Struct ty) = return_kind.Plain
kind_of (term_kind.Decl pure multi partial recursive constructor extractor) = kind_by multi partial

-- whether a single answer may be nothing
abbrev pub may_be_nothing : ReturnKind → Bool
may_be_nothing return_kind.Plain = false
may_be_nothing return_kind.Option = true
may_be_nothing return_kind.Iterator = false

-- at most one answer
abbrev pub AnswersOnce : ReturnKind → Type 0
AnswersOnce return_kind.Plain = Unit {0}
AnswersOnce return_kind.Option = Unit {0}
AnswersOnce return_kind.Iterator = ⊥

-- a call of an impure term is answered by turns, one of a pure term by cases; no other term is called
pub data Calling : Type 0 where
  ByTurns : Callee → (kind : ReturnKind) → Calling
  ByCases : Callee → (kind : ReturnKind) → Calling
  NoCall : Calling

-- a call that is answered so often
abbrev pub HasKind : (ReturnKind → Type 0) → Calling → Type 0
HasKind K (ByTurns callee kind) = K kind
HasKind K (ByCases callee kind) = K kind
HasKind K NoCall = Unit {0}

-- a call that is answered at most once
abbrev pub IsOnce : Calling → Type 0
IsOnce c = HasKind AnswersOnce c

-- what a call of a pure term goes to
abbrev pub pure_callee : Environment → Term → TermKind → Option Callee
pure_callee env t (term_kind.Variant ty variant) = None
pure_callee env t (term_kind.Struct ty) = None
pure_callee env t (term_kind.Decl true multi partial recursive by extractor) = callee_by env t by
pure_callee env t (term_kind.Decl false multi partial recursive by extractor) = None

-- by what a call goes to as an impure and as a pure one
abbrev pub calling_by : ReturnKind → Option Callee → Option Callee → Calling
calling_by kind (Some callee) pure = ByTurns callee kind
calling_by kind None (Some callee) = ByCases callee kind
calling_by kind None None = NoCall

-- how a term is called, if it is there
abbrev pub calling_of : Environment → Option Term → Calling
calling_of env None = NoCall
calling_of env (Some t) = calling_by (kind_of t.kind) (impure_callee env t t.kind) (pure_callee env t t.kind)

-- how the term is called
abbrev pub calling : Environment → TermId → Calling
calling env term = calling_of env (slice_get env.terms term.0)

-- how often an extractor answers: that of a `multi` term several times, an infallible one once, any other one at most once
abbrev pub extractor_kind : (multi infallible : Bool) → ReturnKind
extractor_kind true infallible = return_kind.Iterator
extractor_kind false true = return_kind.Plain
extractor_kind false false = return_kind.Option

-- how a term is called as an extractor: an external one by cases; none by a template is left in a rule
abbrev pub extracting_by : Environment → (multi : Bool) → ExtractorKind → Calling
extracting_by env multi extractor.Absent = NoCall
extracting_by env multi extractor.Internal = NoCall
extracting_by env multi (extractor.External func infallible) = ByCases (External (sym_text env func)) (extractor_kind multi infallible)

-- so of one of this kind
abbrev pub extracting_kind : Environment → TermKind → Calling
extracting_kind env (term_kind.Variant ty variant) = NoCall
extracting_kind env (term_kind.Struct ty) = NoCall
extracting_kind env (term_kind.Decl pure multi partial recursive constructor by) = extracting_by env multi by

-- so of one that is there
abbrev pub extracting_of : Environment → Option Term → Calling
extracting_of env None = NoCall
extracting_of env (Some t) = extracting_kind env t.kind

-- how the term is called as an extractor
abbrev pub extracting : Environment → TermId → Calling
extracting env term = extracting_of env (slice_get env.terms term.0)

-- several answers
abbrev pub is_several : ReturnKind → Bool
is_several return_kind.Plain = false
is_several return_kind.Option = false
is_several return_kind.Iterator = true

-- whether a call is answered several times
abbrev pub answers_often : Calling → Bool
answers_often (ByTurns callee kind) = is_several kind
answers_often (ByCases callee kind) = is_several kind
answers_often NoCall = false

-- whether a call may be answered by nothing
abbrev pub is_fallible : Calling → Bool
is_fallible (ByTurns callee kind) = may_be_nothing kind
is_fallible (ByCases callee kind) = may_be_nothing kind
is_fallible NoCall = false

-- a call whose place among the others counts: an impure one, or one that may be answered by nothing
abbrev pub is_ordered : Calling → Bool
is_ordered (ByTurns callee kind) = true
is_ordered (ByCases callee kind) = may_be_nothing kind
is_ordered NoCall = false

-- the occurrence of a call after n impure ones; that of a pure call is 0
abbrev pub instance_of : Calling → ℕ → ℕ
instance_of (ByTurns callee kind) n = suc n
instance_of (ByCases callee kind) n = 0
instance_of NoCall n = 0

-- an impure call counts
abbrev pub one_more : Calling → ℕ → ℕ
one_more (ByTurns callee kind) n = suc n
one_more (ByCases callee kind) n = n
one_more NoCall n = n

-- how many impure calls an expression makes
abbrev mutual
  pub impure : Environment → Expr → ℕ
  impure env (expr.Term ty term es) = one_more (calling env term) (impure_all env es)
  impure env (expr.Var ty x) = 0
  impure env (expr.ConstBool b) = 0
  impure env (expr.ConstInt ty n) = 0
  impure env (expr.ConstPrim ty name) = 0
  impure env (expr.Let ty bindings inner) = impure_bindings env bindings + impure env inner

  pub impure_all : Environment → Exprs → ℕ
  impure_all env NoExpr = 0
  impure_all env (AnExpr e es) = impure env e + impure_all env es

  pub impure_bindings : Environment → LetBindings → ℕ
  impure_bindings env NoBinding = 0
  impure_bindings env (ABinding x ty e more) = impure env e + impure_bindings env more
