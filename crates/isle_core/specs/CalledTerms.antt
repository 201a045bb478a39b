-- What rules call: each called term, as an extractor or as a constructor.
use Rattle.std.specs.Prelude.{List, [], ◌∷◌, ◌++◌, Bool, true, false, Option, Some, None, if◌then◌else◌, slice_get}
use Rattle.isle_base.specs.declared.ids.TermId.{TermId}
use Rattle.isle_core.specs.declared.types.Term.{Term}
use Rattle.isle_core.specs.declared.types.TermKind.{TermKind}
use Rattle.isle_core.specs.declared.types.TermKind.TheVariants as term_kind
use Rattle.isle_core.specs.Pattern as pattern
use Rattle.isle_core.specs.Pattern.{Pattern, Patterns, NoPattern, APattern}
use Rattle.isle_core.specs.Expr as expr
use Rattle.isle_core.specs.Expr.{Expr, Exprs, NoExpr, AnExpr, LetBindings, NoBinding, ABinding}
use Rattle.isle_core.specs.Rule.{Environment, IfLet, Rule}

-- a term in a pattern is an extractor, one in an expression a constructor
pub data Role : Type 0 where
  Extractor : Role
  Constructor : Role

-- a term that is called, in its role
pub record CalledTerm : Type 0 where
  pub term : TermId
  pub role : Role

-- a term that a variant or a struct makes
abbrev pub is_made_kind : TermKind → Bool
is_made_kind (term_kind.Variant ty variant) = true
is_made_kind (term_kind.Struct ty) = true
is_made_kind (term_kind.Decl pure multi partial recursive constructor extractor) = false

-- so of one that is there
abbrev pub is_made_term : Option Term → Bool
is_made_term None = false
is_made_term (Some t) = is_made_kind t.kind

-- so of the term of this number
abbrev pub is_made : Environment → TermId → Bool
is_made env term = is_made_term (slice_get env.terms term.0)

-- a term in its role; a made term is not called
abbrev pub unless_made : Environment → Role → TermId → List CalledTerm
unless_made env role term = if is_made env term then [] else record { term = term; role = role } ∷ []

-- the terms that a pattern calls
abbrev mutual
  pub extracted_by : Environment → Pattern → List CalledTerm
  extracted_by env (pattern.Term ty term ps) = unless_made env Extractor term ++ extracted_by_all env ps
  extracted_by env (pattern.BindPattern ty x p) = extracted_by env p
  extracted_by env (pattern.And ty ps) = extracted_by_all env ps
  extracted_by env (pattern.Var ty x) = []
  extracted_by env (pattern.ConstBool b) = []
  extracted_by env (pattern.ConstInt ty n) = []
  extracted_by env (pattern.ConstPrim ty name) = []
  extracted_by env (pattern.Wildcard ty) = []

  pub extracted_by_all : Environment → Patterns → List CalledTerm
  extracted_by_all env NoPattern = []
  extracted_by_all env (APattern p ps) = extracted_by env p ++ extracted_by_all env ps

-- the terms that an expression calls
abbrev mutual
  pub called_by : Environment → Expr → List CalledTerm
  called_by env (expr.Term ty term es) = called_by_all env es ++ unless_made env Constructor term
  called_by env (expr.Let ty bindings inner) = called_by_bindings env bindings ++ called_by env inner
  called_by env (expr.Var ty x) = []
  called_by env (expr.ConstBool b) = []
  called_by env (expr.ConstInt ty n) = []
  called_by env (expr.ConstPrim ty name) = []

  pub called_by_all : Environment → Exprs → List CalledTerm
  called_by_all env NoExpr = []
  called_by_all env (AnExpr e es) = called_by env e ++ called_by_all env es

  pub called_by_bindings : Environment → LetBindings → List CalledTerm
  called_by_bindings env NoBinding = []
  called_by_bindings env (ABinding x ty e more) = called_by env e ++ called_by_bindings env more

-- the terms that the patterns of a rule's arguments call
abbrev pub extracted_in : Environment → List Pattern → List CalledTerm
extracted_in env [] = []
extracted_in env (p ∷ ps) = extracted_by env p ++ extracted_in env ps

-- the terms that conditions call
abbrev pub called_in_iflets : Environment → List IfLet → List CalledTerm
called_in_iflets env [] = []
called_in_iflets env (c ∷ cs) = (called_by env c.rhs ++ extracted_by env c.lhs) ++ called_in_iflets env cs

-- the terms that a rule calls
abbrev pub called_in : Environment → Rule → List CalledTerm
called_in env r = (extracted_in env r.args ++ called_in_iflets env r.iflets) ++ called_by env r.rhs

-- the terms that rules call
abbrev pub called : Environment → List Rule → List CalledTerm
called env [] = []
called env (r ∷ rs) = called_in env r ++ called env rs
