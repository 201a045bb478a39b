-- Definitions whose names and numbers are read back as themselves.
use Rattle.std.specs.Prelude.{◌≡◌, ℕ, ◌<◌, ◌≤◌, List, [], ◌∷◌, length, Bool, true, ◌&&◌, nat_lt, Option, Some, None, FitsSigned}
use Rattle.std.specs.List.{AllByRecursion, list_all}
use Rattle.std.specs.Int.{w64, w128}
use Rattle.isle_lexer.specs.Token.{is_word_byte}
use Rattle.isle_lexer.specs.Word.{kind, IsName}
use Rattle.isle_grammar.specs.Grammar.{pattern_of, pattern_head, IsTerm, expr_of, expr_head, IsCall}
use Rattle.isle_ast.specs.Tree.{Pattern, Patterns, NoPattern, APattern, Expr, Exprs, NoExpr, AnExpr, Lets, NoLet, ALet, IfLet, Def}
use Rattle.isle_ast.specs.Tree as tree
use Rattle.isle_ast.specs.Views.{patterns_of}
use Rattle.isle_ast.specs.declared.tree.AstBody.{AstBody}
use Rattle.isle_ast.specs.declared.tree.AstBody.TheVariants as body
use Rattle.isle_ast.specs.declared.tree.AstFields.{AstFields}
use Rattle.isle_ast.specs.declared.tree.AstFields.TheVariants as fields
use Rattle.isle_ast.specs.declared.tree.AstVariant.{AstVariant}
use Rattle.isle_writing.specs.Height.{def_height}

-- ---- words

-- a byte of ASCII that may stand in a word
abbrev pub is_plain_byte : ℕ → Bool
is_plain_byte b = is_word_byte b && nat_lt b 128

-- bytes of which a word may be made, none too
abbrev pub IsPlain : List ℕ → Type 0
IsPlain w = list_all is_plain_byte w ≡ true

-- a word: one such byte or more
abbrev pub IsWord : List ℕ → Type 0
IsWord w = (0 < length w) × IsPlain w

-- a word that stands where the grammar has a name
abbrev pub NamesOne : List ℕ → Type 0
NamesOne w = IsWord w × IsName w

-- so do all of these
abbrev pub AreNames : List (List ℕ) → Type 0
AreNames = AllByRecursion (λ (w : List ℕ). NamesOne w)

-- ---- patterns and expressions

abbrev mutual
  -- a pattern: its words mean there what it says
  pub IsPattern : Pattern → Type 0
  IsPattern (tree.Int n) = FitsSigned w128 n
  IsPattern (tree.Truth b) = Unit {0}
  IsPattern (tree.Const name) = IsPlain name
  IsPattern tree.Wildcard = Unit {0}
  IsPattern (tree.Var name) = IsWord name × (pattern_of name (kind name) ≡ Some (tree.Var name))
  IsPattern (tree.Bind name p) = NamesOne name × IsPattern p
  IsPattern (tree.And ps) = ArePatterns ps
  IsPattern (tree.Term name ps) = IsWord name × (pattern_head name ≡ Some (IsTerm name)) × ArePatterns ps

  -- patterns
  pub ArePatterns : Patterns → Type 0
  ArePatterns NoPattern = Unit {0}
  ArePatterns (APattern p ps) = IsPattern p × ArePatterns ps

abbrev mutual
  -- an expression: its words mean there what it says
  pub IsExpr : Expr → Type 0
  IsExpr (tree.Number n) = FitsSigned w128 n
  IsExpr (tree.Fact b) = Unit {0}
  IsExpr (tree.Constant name) = IsPlain name
  IsExpr (tree.Name name) = IsWord name × (expr_of name (kind name) ≡ Some (tree.Name name))
  IsExpr (tree.Let ls e) = AreLets ls × IsExpr e
  IsExpr (tree.Call name es) = IsWord name × (expr_head name ≡ Some (IsCall name)) × AreExprs es

  -- expressions
  pub AreExprs : Exprs → Type 0
  AreExprs NoExpr = Unit {0}
  AreExprs (AnExpr e es) = IsExpr e × AreExprs es

  -- variables of a `let`
  pub AreLets : Lets → Type 0
  AreLets NoLet = Unit {0}
  AreLets (ALet var ty e ls) = NamesOne var × NamesOne ty × IsExpr e × AreLets ls

-- ---- parts of definitions

-- a condition
abbrev pub IsCondition : IfLet → Type 0
IsCondition i = IsPattern i.lhs × IsExpr i.rhs

-- fields; without any they are those of a unit
abbrev pub AreFields : AstFields → Type 0
AreFields fields.Unit = Unit {0}
AreFields (fields.Named []) = ⊥
AreFields (fields.Named (f ∷ fs)) = AllByRecursion (λ (f : List ℕ × List ℕ). NamesOne f.0 × NamesOne f.1) (f ∷ fs)
AreFields (fields.Tuple []) = ⊥
AreFields (fields.Tuple (t ∷ ts)) = AreNames (t ∷ ts)

-- a variant
abbrev pub IsVariant : AstVariant → Type 0
IsVariant v = NamesOne v.name × AreFields v.fields

-- what a type is
abbrev pub IsBody : AstBody → Type 0
IsBody (body.Primitive name) = NamesOne name
IsBody (body.Enum vs) = AllByRecursion (λ (v : AstVariant). IsVariant v) vs
IsBody (body.Struct fs) = AreFields fs

-- the name of a rule, if it has one
abbrev pub NamesRule : Option (List ℕ) → Type 0
NamesRule None = Unit {0}
NamesRule (Some name) = NamesOne name

-- ---- definitions

-- a definition's words mean what it says; a declared term may have the name of a flag, and a list that is passed over isn't one
abbrev pub IsNamed : Def → Type 0
IsNamed (tree.TypeDecl name is_extern is_nodebug b at) = NamesOne name × IsBody b
IsNamed (tree.Decl term pure multi partial recursive args ret at) = NamesOne term × AreNames args × NamesOne ret
IsNamed (tree.ExternConstructor term func at) = NamesOne term × NamesOne func
IsNamed (tree.ExternExtractor term func infallible at) = NamesOne term × NamesOne func
IsNamed (tree.ExternConst name ty at) = IsPlain name × NamesOne ty
IsNamed (tree.Extractor term params p at) = NamesOne term × AreNames params × IsPattern p
IsNamed (tree.Converter from to term at) = NamesOne from × NamesOne to × NamesOne term
IsNamed (tree.Rule name prio term args iflets rhs at) =
    NamesRule name × FitsSigned w64 prio × NamesOne term × ArePatterns (patterns_of args) × AllByRecursion (λ (i : IfLet). IsCondition i) iflets × IsExpr rhs
IsNamed (tree.Passed head at) = ⊥

-- a definition can be written: its words mean what it says, and it nests no deeper than may be
abbrev pub IsWritable : Def → Type 0
IsWritable d = IsNamed d × (def_height d ≤ 256)

-- each definition can be
abbrev pub AreWritable : List Def → Type 0
AreWritable = AllByRecursion (λ (d : Def). IsWritable d)
