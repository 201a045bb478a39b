-- The forms of rules that are built.
use Rattle.std.specs.Prelude.{ℕ, suc, ◌≤◌, List, true, false, Option, All, IsSomeAnd, slice_get}
use Rattle.isle_core.specs.declared.types.Term.{Term}
use Rattle.isle_core.specs.declared.types.TermKind.{TermKind}
use Rattle.isle_core.specs.declared.types.TermKind.TheVariants as kind
use Rattle.isle_core.specs.declared.types.ConstructorKind.TheVariants as constructor
use Rattle.isle_core.specs.declared.types.ExtractorKind.TheVariants as extractor
use Rattle.isle_core.specs.Pattern as pattern
use Rattle.isle_core.specs.Making.{Making, MakesVariant, MakesStruct, MakesNothing, making_in}
use Rattle.isle_core.specs.Pattern.{Pattern, Patterns, NoPattern, APattern}
use Rattle.isle_core.specs.Expr as expr
use Rattle.isle_core.specs.Expr.{Expr, Exprs, NoExpr, AnExpr, LetBindings, NoBinding, ABinding}
use Rattle.isle_core.specs.Rule.{IfLet, Rule}

-- an external extractor
abbrev pub IsExtractorKind : TermKind → Type 0
IsExtractorKind (kind.Decl pure multi partial recursive by (extractor.External func infallible)) = Unit {0}
IsExtractorKind (kind.Decl pure multi partial recursive by extractor.Absent) = ⊥
IsExtractorKind (kind.Decl pure multi partial recursive by extractor.Internal) = ⊥
IsExtractorKind (kind.Variant ty variant) = ⊥
IsExtractorKind (kind.Struct ty) = ⊥

-- a term that takes values apart: it makes such, or has such an extractor
abbrev pub IsOpening : Making → Option Term → Type 0
IsOpening (MakesVariant ty variant) t = Unit {0}
IsOpening (MakesStruct ty) t = Unit {0}
IsOpening MakesNothing t = IsSomeAnd t (λ (x : Term). IsExtractorKind x.kind)

-- how many patterns there are
abbrev pub count : Patterns → ℕ
count NoPattern = 0
count (APattern p ps) = suc (count ps)

-- a variable, a constant, `_`, `@`, `and`, or a term that takes values apart, of at most 256 such patterns
abbrev mutual
  pub IsBuiltPattern : List Term → Pattern → Type 0
  IsBuiltPattern terms (pattern.Var ty x) = Unit {0}
  IsBuiltPattern terms (pattern.ConstBool b) = Unit {0}
  IsBuiltPattern terms (pattern.ConstInt ty n) = Unit {0}
  IsBuiltPattern terms (pattern.ConstPrim ty name) = Unit {0}
  IsBuiltPattern terms (pattern.Wildcard ty) = Unit {0}
  IsBuiltPattern terms (pattern.Term of term ps) = IsOpening (making_in terms term) (slice_get terms term.0) × (count ps ≤ 256) × AreBuiltPatterns terms ps
  IsBuiltPattern terms (pattern.BindPattern of x q) = IsBuiltPattern terms q
  IsBuiltPattern terms (pattern.And of ps) = AreBuiltPatterns terms ps

  -- so of patterns in order
  pub AreBuiltPatterns : List Term → Patterns → Type 0
  AreBuiltPatterns terms NoPattern = Unit {0}
  AreBuiltPatterns terms (APattern p ps) = IsBuiltPattern terms p × AreBuiltPatterns terms ps

-- a variable, a constant, a term on such expressions, or a `let` of such
abbrev mutual
  pub IsBuiltExpr : Expr → Type 0
  IsBuiltExpr (expr.Var ty x) = Unit {0}
  IsBuiltExpr (expr.ConstBool b) = Unit {0}
  IsBuiltExpr (expr.ConstInt ty n) = Unit {0}
  IsBuiltExpr (expr.Term ty term es) = AreBuiltExprs es
  IsBuiltExpr (expr.ConstPrim of name) = Unit {0}
  IsBuiltExpr (expr.Let of bindings inner) = AreBuiltBindings bindings × IsBuiltExpr inner

  -- so of expressions in order
  pub AreBuiltExprs : Exprs → Type 0
  AreBuiltExprs NoExpr = Unit {0}
  AreBuiltExprs (AnExpr e es) = IsBuiltExpr e × AreBuiltExprs es

  -- so of the values of a `let`
  pub AreBuiltBindings : LetBindings → Type 0
  AreBuiltBindings NoBinding = Unit {0}
  AreBuiltBindings (ABinding x ty e more) = IsBuiltExpr e × AreBuiltBindings more

-- ---- the terms of expressions

-- a made term, or one that has a constructor
abbrev pub IsBuiltKind : TermKind → Type 0
IsBuiltKind (kind.Decl pure multi partial recursive constructor.Internal extractor) = Unit {0}
IsBuiltKind (kind.Decl pure multi partial recursive (constructor.External func) extractor) = Unit {0}
IsBuiltKind (kind.Variant ty variant) = Unit {0}
IsBuiltKind (kind.Struct ty) = Unit {0}
IsBuiltKind (kind.Decl pure multi partial recursive constructor.Absent extractor) = ⊥

-- a made term, or a pure one that has a constructor
abbrev pub IsPureKind : TermKind → Type 0
IsPureKind (kind.Decl true multi partial recursive constructor.Internal extractor) = Unit {0}
IsPureKind (kind.Decl true multi partial recursive (constructor.External func) extractor) = Unit {0}
IsPureKind (kind.Variant ty variant) = Unit {0}
IsPureKind (kind.Struct ty) = Unit {0}
IsPureKind (kind.Decl true multi partial recursive constructor.Absent extractor) = ⊥
IsPureKind (kind.Decl false multi partial recursive by extractor) = ⊥

-- each term of an expression is of such a kind; calls of others are not built
abbrev mutual
  pub HasTerms : (TermKind → Type 0) → List Term → Expr → Type 0
  HasTerms K terms (expr.Term ty term es) = IsSomeAnd (slice_get terms term.0) (λ (t : Term). K t.kind) × AllHaveTerms K terms es
  HasTerms K terms (expr.Var of x) = Unit {0}
  HasTerms K terms (expr.ConstBool b) = Unit {0}
  HasTerms K terms (expr.ConstInt of n) = Unit {0}
  HasTerms K terms (expr.ConstPrim of name) = Unit {0}
  HasTerms K terms (expr.Let of bindings inner) = BindingsHaveTerms K terms bindings × HasTerms K terms inner

  -- so of expressions in order
  pub AllHaveTerms : (TermKind → Type 0) → List Term → Exprs → Type 0
  AllHaveTerms K terms NoExpr = Unit {0}
  AllHaveTerms K terms (AnExpr e es) = HasTerms K terms e × AllHaveTerms K terms es

  -- so of the values of a `let`
  pub BindingsHaveTerms : (TermKind → Type 0) → List Term → LetBindings → Type 0
  BindingsHaveTerms K terms NoBinding = Unit {0}
  BindingsHaveTerms K terms (ABinding x ty e more) = HasTerms K terms e × BindingsHaveTerms K terms more

-- so if each is built
abbrev pub HasBuiltTerms : List Term → Expr → Type 0
HasBuiltTerms terms e = HasTerms IsBuiltKind terms e

abbrev pub AllHaveBuiltTerms : List Term → Exprs → Type 0
AllHaveBuiltTerms terms es = AllHaveTerms IsBuiltKind terms es

abbrev pub BindingsHaveBuiltTerms : List Term → LetBindings → Type 0
BindingsHaveBuiltTerms terms bs = BindingsHaveTerms IsBuiltKind terms bs

-- so of a rule's right side
abbrev pub CallsBuiltTerms : List Term → Rule → Type 0
CallsBuiltTerms terms r = HasBuiltTerms terms r.rhs

-- ---- rules

-- a condition of such a pattern and such an expression, which calls only pure terms
pub record IsBuiltIfLet (terms : List Term) (c : IfLet) : Type 0 where
  pub lhs : IsBuiltPattern terms c.lhs
  pub rhs : IsBuiltExpr c.rhs
  pub calls : HasTerms IsPureKind terms c.rhs

-- a rule of such patterns, such conditions and such a right side
pub record IsBuiltRule (terms : List Term) (r : Rule) : Type 0 where
  pub args : All (IsBuiltPattern terms) r.args
  pub iflets : All (IsBuiltIfLet terms) r.iflets
  pub rhs : IsBuiltExpr r.rhs
