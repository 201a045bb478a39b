-- Calls, before it is known what they fill.
use Rattle.std.specs.Prelude.{ℕ, List, Option, Some, slice_get}
use Rattle.isle_core.specs.declared.types.Term.{Term}
use Rattle.isle_core.specs.declared.values.Callee.{Callee}
use Rattle.isle_core.specs.Rule.{Environment}
use Rattle.isle_core.specs.declared.BindingId.{BindingId}
use Rattle.isle_core.specs.declared.TermId.{TermId}
use Rattle.isle_core.specs.Calling.{calling, calling_of, extracting, extracting_of}
use Rattle.isle_core.specs.Setting.{Setting}
use Rattle.isle_tree.specs.declared.tree.TExpr.{TExpr}
use Rattle.isle_tree.specs.declared.tree.TExpr.TheVariants as expr
use Rattle.isle_emission.specs.declared.called.Called.{Called}
use Rattle.isle_simulation.specs.Statements.{callee_of, call_of, extraction_of}

-- what a call computes
abbrev pub call_expr : Called → TExpr
call_expr c = expr.Call c.borrow c.call

-- a call of the term of this number
abbrev pub called_at : Setting → List ℕ → TermId → List BindingId → Option TExpr
called_at s bound term parameters = call_of s bound (slice_get s.env.terms term.0) (callee_of (calling s.env term)) parameters

-- a call of its extractor
abbrev pub extraction_at : Setting → List ℕ → TermId → BindingId → Option TExpr
extraction_at s bound term parameter = extraction_of s bound (slice_get s.env.terms term.0) (callee_of (extracting s.env term)) parameter

-- what a call of a term goes to
abbrev pub callee_at : Environment → Term → Option Callee
callee_at env t = callee_of (calling_of env (Some t))

-- and of its extractor
abbrev pub extractor_at : Environment → Term → Option Callee
extractor_at env t = callee_of (extracting_of env (Some t))
