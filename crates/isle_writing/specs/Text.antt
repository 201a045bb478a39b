-- The layout of definitions: each begins a line and ends with a line feed, single blanks between its parts.
use Rattle.std.specs.Prelude.{ℕ, zero, suc, ℤ, pos, negsuc, List, [], ◌∷◌, ◌++◌, Bool, true, false, Option, Some, None, codes}
use Rattle.isle_printer.specs.Number.{numeral}
use Rattle.isle_ast.specs.Tree.{Pattern, Patterns, NoPattern, APattern, Expr, Exprs, NoExpr, AnExpr, Lets, NoLet, ALet, IfLet, Def}
use Rattle.isle_ast.specs.Tree as tree
use Rattle.isle_ast.specs.Views.{patterns_of}
use Rattle.isle_ast.specs.declared.tree.AstBody.{AstBody}
use Rattle.isle_ast.specs.declared.tree.AstBody.TheVariants as body
use Rattle.isle_ast.specs.declared.tree.AstFields.{AstFields}
use Rattle.isle_ast.specs.declared.tree.AstFields.TheVariants as fields
use Rattle.isle_ast.specs.declared.tree.AstVariant.{AstVariant}

-- ---- words

-- a truth
abbrev pub truth_text : Bool → List ℕ
truth_text true = codes "true"
truth_text false = codes "false"

-- a number in decimal
abbrev pub number_text : ℤ → List ℕ
number_text (pos n) = numeral 10 n
number_text (negsuc n) = codes "-" ++ numeral 10 (suc n)

-- a word and a blank, if it is to stand there
abbrev pub mark_text : Bool → List ℕ → List ℕ
mark_text true word = word ++ codes " "
mark_text false word = []

-- names with blanks between them, and these bytes in front of the first
abbrev pub spaced : List ℕ → List (List ℕ) → List ℕ
spaced gap [] = []
spaced gap (name ∷ names) = gap ++ (name ++ spaced (codes " ") names)

-- ---- patterns and expressions

abbrev mutual
  -- a pattern
  pub pattern_text : Pattern → List ℕ
  pattern_text (tree.Int n) = number_text n
  pattern_text (tree.Truth b) = truth_text b
  pattern_text (tree.Const name) = codes "$" ++ name
  pattern_text tree.Wildcard = codes "_"
  pattern_text (tree.Var name) = name
  pattern_text (tree.Bind name p) = name ++ (codes " @ " ++ pattern_text p)
  pattern_text (tree.And ps) = codes "(and" ++ (patterns_text ps ++ codes ")")
  pattern_text (tree.Term name ps) = codes "(" ++ (name ++ (patterns_text ps ++ codes ")"))

  -- each pattern after a blank
  pub patterns_text : Patterns → List ℕ
  patterns_text NoPattern = []
  patterns_text (APattern p ps) = codes " " ++ (pattern_text p ++ patterns_text ps)

-- patterns, each after a blank, and the parenthesis after them
abbrev pub closed_text : Patterns → List ℕ
closed_text ps = patterns_text ps ++ codes ")"

-- a variable and its type, each before a blank, after these bytes and a parenthesis
abbrev pub typed_text : (gap var ty : List ℕ) → List ℕ
typed_text gap var ty = gap ++ (codes "(" ++ (var ++ (codes " " ++ (ty ++ codes " "))))

abbrev mutual
  -- an expression
  pub expr_text : Expr → List ℕ
  expr_text (tree.Number n) = number_text n
  expr_text (tree.Fact b) = truth_text b
  expr_text (tree.Constant name) = codes "$" ++ name
  expr_text (tree.Name name) = name
  expr_text (tree.Let ls e) = codes "(let (" ++ (lets_text [] ls ++ (codes ") " ++ (expr_text e ++ codes ")")))
  expr_text (tree.Call name es) = codes "(" ++ (name ++ (exprs_text es ++ codes ")"))

  -- each expression after a blank
  pub exprs_text : Exprs → List ℕ
  exprs_text NoExpr = []
  exprs_text (AnExpr e es) = codes " " ++ (expr_text e ++ exprs_text es)

  -- variables of a `let` with blanks between them, and these bytes in front of the first
  pub lets_text : List ℕ → Lets → List ℕ
  lets_text gap NoLet = []
  lets_text gap (ALet var ty e ls) = gap ++ (codes "(" ++ (var ++ (codes " " ++ (ty ++ (codes " " ++ (expr_text e ++ (codes ")" ++ lets_text (codes " ") ls)))))))

-- ---- parts of definitions

-- a field and its type, after a blank
abbrev pub field_text : (name ty : List ℕ) → List ℕ
field_text name ty = codes " (" ++ (name ++ (codes " " ++ (ty ++ codes ")")))

-- fields with names, each after a blank
abbrev pub named_text : List (List ℕ × List ℕ) → List ℕ
named_text [] = []
named_text (f ∷ fs) = field_text f.0 f.1 ++ named_text fs

-- fields, each after a blank
abbrev pub shape_text : AstFields → List ℕ
shape_text fields.Unit = []
shape_text (fields.Named fs) = named_text fs
shape_text (fields.Tuple ts) = spaced (codes " ") ts

-- a variant: one without fields is its name
abbrev pub variant_text : List ℕ → AstFields → List ℕ
variant_text name fields.Unit = name
variant_text name (fields.Named fs) = codes "(" ++ (name ++ (named_text fs ++ codes ")"))
variant_text name (fields.Tuple ts) = codes "(" ++ (name ++ (spaced (codes " ") ts ++ codes ")"))

-- variants, each on a line of its own that is set in
abbrev pub variants_text : List AstVariant → List ℕ
variants_text [] = []
variants_text (v ∷ vs) = codes "\n  " ++ (variant_text v.name v.fields ++ variants_text vs)

-- what a type is
abbrev pub body_text : AstBody → List ℕ
body_text (body.Primitive name) = codes "(primitive " ++ (name ++ codes ")")
body_text (body.Enum vs) = codes "(enum" ++ (variants_text vs ++ codes ")")
body_text (body.Struct fs) = codes "(struct" ++ (shape_text fs ++ codes ")")

-- the flags of a declaration, each before a blank
abbrev pub flags_text : (pure multi partial recursive : Bool) → List ℕ
flags_text pure multi partial recursive =
    mark_text pure (codes "pure") ++ (mark_text multi (codes "multi") ++ (mark_text partial (codes "partial") ++ mark_text recursive (codes "rec")))

-- a rule's name before a blank, if it has one
abbrev pub rule_name_text : Option (List ℕ) → List ℕ
rule_name_text None = []
rule_name_text (Some name) = name ++ codes " "

-- a rule's priority before a blank, 0 too
abbrev pub whole_prio_text : ℤ → List ℕ
whole_prio_text n = number_text n ++ codes " "

-- a rule's priority before a blank; 0 is not written
abbrev pub prio_text : ℤ → List ℕ
prio_text (pos zero) = []
prio_text (pos (suc n)) = number_text (pos (suc n)) ++ codes " "
prio_text (negsuc n) = number_text (negsuc n) ++ codes " "

-- a condition before a blank
abbrev pub iflet_text : IfLet → List ℕ
iflet_text i = codes "(if-let " ++ (pattern_text i.lhs ++ (codes " " ++ (expr_text i.rhs ++ codes ") ")))

-- conditions, each before a blank
abbrev pub iflets_text : List IfLet → List ℕ
iflets_text [] = []
iflets_text (i ∷ is) = iflet_text i ++ iflets_text is

-- a type's marks and what it is, to the end of the line
abbrev pub marked_text : (is_extern is_nodebug : Bool) → AstBody → List ℕ
marked_text is_extern is_nodebug b = mark_text is_extern (codes "extern") ++ (mark_text is_nodebug (codes "nodebug") ++ (body_text b ++ codes ")\n"))

-- a declared term, the types of its arguments and of its result, to the end of the line
abbrev pub signature_text : (term : List ℕ) (args : List (List ℕ)) (ret : List ℕ) → List ℕ
signature_text term args ret = term ++ (codes " (" ++ (spaced [] args ++ (codes ") " ++ (ret ++ codes ")\n"))))

-- two names after these bytes, with a blank between them, to the end of the line
abbrev pub pair_text : (before first second : List ℕ) → List ℕ
pair_text before first second = before ++ (first ++ (codes " " ++ (second ++ codes ")\n")))

-- an extractor's parameters and what it stands for, to the end of the line
abbrev pub template_text : List (List ℕ) → Pattern → List ℕ
template_text params p = spaced (codes " ") params ++ (codes ") " ++ (pattern_text p ++ codes ")\n"))

-- a rule's term and the patterns of its arguments, before a blank
abbrev pub parts_text : List ℕ → List Pattern → List ℕ
parts_text term args = codes "(" ++ (term ++ (patterns_text (patterns_of args) ++ codes ") "))

-- a rule's conditions and its right side, to the end of the line
abbrev pub conclusion_text : List IfLet → Expr → List ℕ
conclusion_text iflets rhs = iflets_text iflets ++ (expr_text rhs ++ codes ")\n")

-- ---- definitions

-- a definition; its place is not written, nor what stands in a list that is passed over
unfoldable pub def_text : Def → List ℕ
def_text (tree.TypeDecl name is_extern is_nodebug b at) = codes "(type " ++ (name ++ (codes " " ++ marked_text is_extern is_nodebug b))
def_text (tree.Decl term pure multi partial recursive args ret at) = codes "(decl " ++ (flags_text pure multi partial recursive ++ signature_text term args ret)
def_text (tree.ExternConstructor term func at) = pair_text (codes "(extern constructor ") term func
def_text (tree.ExternExtractor term func infallible at) = codes "(extern extractor " ++ (mark_text infallible (codes "infallible") ++ pair_text [] term func)
def_text (tree.ExternConst name ty at) = pair_text (codes "(extern const $") name ty
def_text (tree.Extractor term params p at) = codes "(extractor (" ++ (term ++ template_text params p)
def_text (tree.Converter from to term at) = codes "(convert " ++ (from ++ pair_text (codes " ") to term)
def_text (tree.Rule name prio term args iflets rhs at) = codes "(rule " ++ (rule_name_text name ++ (prio_text prio ++ (parts_text term args ++ conclusion_text iflets rhs)))
def_text (tree.Passed head at) = codes "(" ++ (head ++ codes ")\n")

-- definitions, one after the other
abbrev pub def_texts : List Def → List ℕ
def_texts [] = []
def_texts (d ∷ ds) = def_text d ++ def_texts ds

-- a definition, a rule's priority being written even if it is 0
unfoldable pub whole_def_text : Def → List ℕ
whole_def_text (tree.TypeDecl name is_extern is_nodebug b at) = def_text (tree.TypeDecl name is_extern is_nodebug b at)
whole_def_text (tree.Decl term pure multi partial recursive args ret at) = def_text (tree.Decl term pure multi partial recursive args ret at)
whole_def_text (tree.ExternConstructor term func at) = def_text (tree.ExternConstructor term func at)
whole_def_text (tree.ExternExtractor term func infallible at) = def_text (tree.ExternExtractor term func infallible at)
whole_def_text (tree.ExternConst name ty at) = def_text (tree.ExternConst name ty at)
whole_def_text (tree.Extractor term params p at) = def_text (tree.Extractor term params p at)
whole_def_text (tree.Converter from to term at) = def_text (tree.Converter from to term at)
whole_def_text (tree.Rule name prio term args iflets rhs at) =
    codes "(rule " ++ (rule_name_text name ++ (whole_prio_text prio ++ (parts_text term args ++ conclusion_text iflets rhs)))
whole_def_text (tree.Passed head at) = def_text (tree.Passed head at)
