-- The grammar: what the tokens begin with, and which tokens stand after it. A constructor for each form.
use Rattle.std.specs.Prelude.{◌≡◌, ℕ, suc, ℤ, pos, List, [], ◌∷◌, Bool, true, false, if◌then◌else◌, Option, Some, None, option_map, FitsSigned, bytes_eq, codes}
use Rattle.std.specs.Int.{w64}
use Rattle.isle_lexer.specs.Lexeme.{Lexeme, Open, Close, At, Less, Greater, Word}
use Rattle.isle_lexer.specs.Word.{WordKind, kind, IsName, is_flag, is_let}
use Rattle.isle_lexer.specs.Word as word
use Rattle.isle_reading.specs.Names.{NameS, name_of}
use Rattle.isle_reading.specs.Nesting.{is_passed}
use Rattle.isle_reading.specs.Relations.{Many, WordsFrom}
use Rattle.isle_grammar.specs.PassedOver.{Any, Anys, NoAny, AnAny}
use Rattle.isle_grammar.specs.PassedOver as passed_over
use Rattle.isle_ast.specs.Tree.{Pattern, Patterns, NoPattern, APattern, Expr, Exprs, NoExpr, AnExpr, Lets, NoLet, ALet, IfLet, Def}
use Rattle.isle_ast.specs.Tree as tree
use Rattle.isle_ast.specs.declared.tree.AstBody.{AstBody}
use Rattle.isle_ast.specs.declared.tree.AstBody.TheVariants as body
use Rattle.isle_ast.specs.declared.tree.AstFields.{AstFields}
use Rattle.isle_ast.specs.declared.tree.AstFields.TheVariants as fields
use Rattle.isle_ast.specs.declared.tree.AstVariant.{AstVariant}

-- ---- patterns

-- the pattern that a word of this kind is by itself: int, true, false, $N, _ or x
abbrev pub pattern_of : List ℕ → WordKind → Option Pattern
pattern_of w (word.Number n) = Some (tree.Int n)
pattern_of w word.Malformed = None
pattern_of w (word.Truth b) = Some (tree.Truth b)
pattern_of w (word.Dollar name) = Some (tree.Const name)
pattern_of w word.Underscore = Some tree.Wildcard
pattern_of w word.Plain = Some (tree.Var w)

-- what a pattern's list is, by its first word
pub data PatternHead : Type 0 where
  IsAnd : PatternHead
  IsTerm : (name : List ℕ) → PatternHead

-- the head `and` always means that form; any other name is a term's
abbrev pub pattern_head : List ℕ → Option PatternHead
pattern_head w = if bytes_eq w (codes "and") then Some IsAnd else option_map (λ name. IsTerm name) (name_of w)

-- ( and P* ), ( N P* )
abbrev pub listed : PatternHead → Patterns → Pattern
listed IsAnd ps = tree.And ps
listed (IsTerm name) ps = tree.Term name ps

mutual
  -- P
  pub data PatternS : Pattern → List Lexeme → List Lexeme → Type 0 where
    word_pattern : (at : ℕ) (w : List ℕ) (p : Pattern) (ts : List Lexeme) → pattern_of w (kind w) ≡ Some p → PatternS p (Word at w ∷ ts) ts
    -- x @ P
    bound : (at n : ℕ) (x : List ℕ) (p : Pattern) (ts rest : List Lexeme) → IsName x → PatternS p ts rest → PatternS (tree.Bind x p) (Word at x ∷ At n ∷ ts) rest
    -- ( and P* ), ( N P* )
    list : (at n : ℕ) (w : List ℕ) (head : PatternHead) (ps : Patterns) (ts rest : List Lexeme) → pattern_head w ≡ Some head → PatternsS ps ts rest → PatternS (listed head ps) (Open at ∷ Word n w ∷ ts) rest

  -- P*, and the parenthesis after them
  pub data PatternsS : Patterns → List Lexeme → List Lexeme → Type 0 where
    no_pattern : (at : ℕ) (ts : List Lexeme) → PatternsS NoPattern (Close at ∷ ts) ts
    a_pattern : (p : Pattern) (others : Patterns) (ts mid rest : List Lexeme) → PatternS p ts mid → PatternsS others mid rest → PatternsS (APattern p others) ts rest

-- ---- expressions

-- the expression that a word of this kind is: int, true, false, $N or x; here _ is a variable's name
abbrev pub expr_of : List ℕ → WordKind → Option Expr
expr_of w (word.Number n) = Some (tree.Number n)
expr_of w word.Malformed = None
expr_of w (word.Truth b) = Some (tree.Fact b)
expr_of w (word.Dollar name) = Some (tree.Constant name)
expr_of w word.Underscore = Some (tree.Name w)
expr_of w word.Plain = Some (tree.Name w)

-- what an expression's list is, by its first word
pub data ExprHead : Type 0 where
  IsLet : ExprHead
  IsCall : (name : List ℕ) → ExprHead

-- the head `let` always means that form; any other name is a term's
abbrev pub expr_head : List ℕ → Option ExprHead
expr_head w = if is_let w then Some IsLet else option_map (λ name. IsCall name) (name_of w)

mutual
  -- E
  pub data ExprS : Expr → List Lexeme → List Lexeme → Type 0 where
    word_expr : (at : ℕ) (w : List ℕ) (e : Expr) (ts : List Lexeme) → expr_of w (kind w) ≡ Some e → ExprS e (Word at w ∷ ts) ts
    -- ( let ( ( x T E )* ) E )
    let_in : (at n o c : ℕ) (w : List ℕ) (ls : Lets) (e : Expr) (ts mid rest : List Lexeme)
        → expr_head w ≡ Some IsLet → LetsS ls ts mid → ExprS e mid (Close c ∷ rest) → ExprS (tree.Let ls e) (Open at ∷ Word n w ∷ Open o ∷ ts) rest
    -- ( N E* )
    call : (at n : ℕ) (w name : List ℕ) (args : Exprs) (ts rest : List Lexeme) → expr_head w ≡ Some (IsCall name) → ExprsS args ts rest → ExprS (tree.Call name args) (Open at ∷ Word n w ∷ ts) rest

  -- E*, and the parenthesis after them
  pub data ExprsS : Exprs → List Lexeme → List Lexeme → Type 0 where
    no_expr : (at : ℕ) (ts : List Lexeme) → ExprsS NoExpr (Close at ∷ ts) ts
    an_expr : (e : Expr) (others : Exprs) (ts mid rest : List Lexeme) → ExprS e ts mid → ExprsS others mid rest → ExprsS (AnExpr e others) ts rest

  -- ( x T E )*, and the parenthesis after them
  pub data LetsS : Lets → List Lexeme → List Lexeme → Type 0 where
    no_let : (at : ℕ) (ts : List Lexeme) → LetsS NoLet (Close at ∷ ts) ts
    a_let : (at c : ℕ) (x ty : List ℕ) (e : Expr) (others : Lets) (ts us vs mid rest : List Lexeme)
        → NameS x ts us → NameS ty us vs → ExprS e vs (Close c ∷ mid) → LetsS others mid rest → LetsS (ALet x ty e others) (Open at ∷ ts) rest

-- ---- conditions, and a rule's right side

-- what a condition is, by its first word
pub data IfHead : Type 0 where
  IsIfLet : IfHead
  IsIf : IfHead

abbrev pub if_head : List ℕ → Option IfHead
if_head w = if bytes_eq w (codes "if-let") then Some IsIfLet else (if bytes_eq w (codes "if") then Some IsIf else None)

-- ( if-let P E ), or ( if E ), which means ( if-let _ E )
pub data IfLetS : IfLet → List Lexeme → List Lexeme → Type 0 where
  if_let : (at n c : ℕ) (w : List ℕ) (p : Pattern) (e : Expr) (ts mid rest : List Lexeme)
      → if_head w ≡ Some IsIfLet → PatternS p ts mid → ExprS e mid (Close c ∷ rest) → IfLetS (record { lhs = p; rhs = e }) (Open at ∷ Word n w ∷ ts) rest
  if_only : (at n c : ℕ) (w : List ℕ) (e : Expr) (ts rest : List Lexeme) → if_head w ≡ Some IsIf → ExprS e ts (Close c ∷ rest) → IfLetS (record { lhs = tree.Wildcard; rhs = e }) (Open at ∷ Word n w ∷ ts) rest

-- iflet* E, and the parenthesis after them; the last form is E, and may look like a condition
pub data TailS : List IfLet × Expr → List Lexeme → List Lexeme → Type 0 where
  last : (c : ℕ) (e : Expr) (ts rest : List Lexeme) → ExprS e ts (Close c ∷ rest) → TailS ([], e) ts rest
  more : (i : IfLet) (x : List IfLet × Expr) (ts mid rest : List Lexeme) → IfLetS i ts mid → TailS x mid rest → TailS (i ∷ x.0, x.1) ts rest

-- ---- what types are declared as

-- ( f T )
pub data FieldS : List ℕ × List ℕ → List Lexeme → List Lexeme → Type 0 where
  field : (at c : ℕ) (name ty : List ℕ) (ts mid rest : List Lexeme) → NameS name ts mid → NameS ty mid (Close c ∷ rest) → FieldS (name, ty) (Open at ∷ ts) rest

-- nothing, ( f T )+ or T+, and the parenthesis after them
pub data ShapeS : AstFields → List Lexeme → List Lexeme → Type 0 where
  unit : (at : ℕ) (ts : List Lexeme) → ShapeS fields.Unit (Close at ∷ ts) ts
  named : (f : List ℕ × List ℕ) (others : List (List ℕ × List ℕ)) (ts rest : List Lexeme) → Many FieldS (f ∷ others) ts rest → ShapeS (fields.Named (f ∷ others)) ts rest
  tuple : (ty : List ℕ) (others : List (List ℕ)) (ts rest : List Lexeme) → Many NameS (ty ∷ others) ts rest → ShapeS (fields.Tuple (ty ∷ others)) ts rest

-- V or ( V shape )
pub data VariantS : AstVariant → List Lexeme → List Lexeme → Type 0 where
  plain : (name : List ℕ) (ts rest : List Lexeme) → NameS name ts rest → VariantS (record { name = name; fields = fields.Unit }) ts rest
  shaped : (at : ℕ) (name : List ℕ) (fs : AstFields) (ts mid rest : List Lexeme) → NameS name ts mid → ShapeS fs mid rest → VariantS (record { name = name; fields = fs }) (Open at ∷ ts) rest

-- what a body is, by its first word
pub data BodyHead : Type 0 where
  IsPrimitive : BodyHead
  IsEnum : BodyHead
  IsStruct : BodyHead

abbrev pub body_head : List ℕ → Option BodyHead
body_head w =
    if bytes_eq w (codes "primitive") then Some IsPrimitive
    else (if bytes_eq w (codes "enum") then Some IsEnum
    else (if bytes_eq w (codes "struct") then Some IsStruct
    else None))

-- ( primitive R ), ( enum variant* ) or ( struct shape )
pub data BodyS : AstBody → List Lexeme → List Lexeme → Type 0 where
  primitive : (at n c : ℕ) (w name : List ℕ) (ts rest : List Lexeme) → body_head w ≡ Some IsPrimitive → NameS name ts (Close c ∷ rest) → BodyS (body.Primitive name) (Open at ∷ Word n w ∷ ts) rest
  enum : (at n : ℕ) (w : List ℕ) (vs : List AstVariant) (ts rest : List Lexeme) → body_head w ≡ Some IsEnum → Many VariantS vs ts rest → BodyS (body.Enum vs) (Open at ∷ Word n w ∷ ts) rest
  struct : (at n : ℕ) (w : List ℕ) (fs : AstFields) (ts rest : List Lexeme) → body_head w ≡ Some IsStruct → ShapeS fs ts rest → BodyS (body.Struct fs) (Open at ∷ Word n w ∷ ts) rest

-- ---- lists that are passed over

-- the thing that a token which is no parenthesis is
abbrev pub any_of : Lexeme → Option Any
any_of (Open at) = None
any_of (Close at) = None
any_of (At at) = Some passed_over.At
any_of (Less at) = Some passed_over.Less
any_of (Greater at) = Some passed_over.Greater
any_of (Word at w) = Some (passed_over.Word w)

mutual
  -- a word of any kind, @, <, > or ( any* )
  pub data AnyS : Any → List Lexeme → List Lexeme → Type 0 where
    token : (t : Lexeme) (a : Any) (ts : List Lexeme) → any_of t ≡ Some a → AnyS a (t ∷ ts) ts
    nested : (at : ℕ) (items : Anys) (ts rest : List Lexeme) → AnysS items ts rest → AnyS (passed_over.Nested items) (Open at ∷ ts) rest

  -- any*, and the parenthesis after them
  pub data AnysS : Anys → List Lexeme → List Lexeme → Type 0 where
    no_any : (at : ℕ) (ts : List Lexeme) → AnysS NoAny (Close at ∷ ts) ts
    an_any : (a : Any) (others : Anys) (ts mid rest : List Lexeme) → AnyS a ts mid → AnysS others mid rest → AnysS (AnAny a others) ts rest

-- ---- words of definitions

-- [name]
pub data RuleNameS : Option (List ℕ) → List Lexeme → List Lexeme → Type 0 where
  unnamed : (ts : List Lexeme) → RuleNameS None ts ts
  named_rule : (at : ℕ) (w : List ℕ) (ts : List Lexeme) → IsName w → RuleNameS (Some w) (Word at w ∷ ts) ts

-- [prio], an integer of 64 signed bits; without one it is 0
pub data PrioS : ℤ → List Lexeme → List Lexeme → Type 0 where
  unwritten : (ts : List Lexeme) → PrioS (pos 0) ts ts
  written : (at : ℕ) (w : List ℕ) (n : ℤ) (ts : List Lexeme) → kind w ≡ word.Number n → FitsSigned w64 n → PrioS n (Word at w ∷ ts) ts

-- the flags of a `decl`
pub record Flags : Type 0 where
  pub pure : Bool
  pub multi : Bool
  pub partial : Bool
  pub recursive : Bool

abbrev pub no_flags : Flags
no_flags = record { pure = false; multi = false; partial = false; recursive = false }

-- the flags with that of the word, which may not be there yet
abbrev pub with_flag : Flags → List ℕ → Option Flags
with_flag s w =
    if bytes_eq w (codes "pure") then (if s.pure then None else Some (record { pure = true; multi = s.multi; partial = s.partial; recursive = s.recursive }))
    else (if bytes_eq w (codes "multi") then (if s.multi then None else Some (record { pure = s.pure; multi = true; partial = s.partial; recursive = s.recursive }))
    else (if bytes_eq w (codes "partial") then (if s.partial then None else Some (record { pure = s.pure; multi = s.multi; partial = true; recursive = s.recursive }))
    else (if bytes_eq w (codes "rec") then (if s.recursive then None else Some (record { pure = s.pure; multi = s.multi; partial = s.partial; recursive = true }))
    else None)))

-- the words after a type's name: `extern`, `nodebug`
pub record Marks : Type 0 where
  pub is_extern : Bool
  pub is_nodebug : Bool

abbrev pub no_marks : Marks
no_marks = record { is_extern = false; is_nodebug = false }

-- the marks with that of the word, which may not be there yet
abbrev pub with_mark : Marks → List ℕ → Option Marks
with_mark s w =
    if bytes_eq w (codes "extern") then (if s.is_extern then None else Some (record { is_extern = true; is_nodebug = s.is_nodebug }))
    else (if bytes_eq w (codes "nodebug") then (if s.is_nodebug then None else Some (record { is_extern = s.is_extern; is_nodebug = true }))
    else None)

-- ---- definitions

-- a definition; its place is its parenthesis
pub data DefS (file : ℕ) : Def → List Lexeme → List Lexeme → Type 0 where
  -- ( type N tword* body )
  type_decl : (at h c : ℕ) (head name : List ℕ) (marks : Marks) (b : AstBody) (ts us vs rest : List Lexeme)
      → head ≡ codes "type" → NameS name ts us → WordsFrom with_mark 2 no_marks marks us vs → BodyS b vs (Close c ∷ rest)
      → DefS file (tree.TypeDecl name marks.is_extern marks.is_nodebug b (record { file = file; offset = at })) (Open at ∷ Word h head ∷ ts) rest
  -- ( decl dword* N ( T* ) T ), in which N is no flag: the longest run of the four words are flags
  decl : (at h n o c : ℕ) (head term ret : List ℕ) (flags : Flags) (args : List (List ℕ)) (ts us mid rest : List Lexeme)
      → head ≡ codes "decl" → WordsFrom with_flag 4 no_flags flags ts (Word n term ∷ Open o ∷ us) → IsName term → is_flag term ≡ false → Many NameS args us mid → NameS ret mid (Close c ∷ rest)
      → DefS file (tree.Decl term flags.pure flags.multi flags.partial flags.recursive args ret (record { file = file; offset = at })) (Open at ∷ Word h head ∷ ts) rest
  -- ( extern constructor N F )
  extern_constructor : (at h k c : ℕ) (head second term func : List ℕ) (ts mid rest : List Lexeme)
      → head ≡ codes "extern" → second ≡ codes "constructor" → NameS term ts mid → NameS func mid (Close c ∷ rest)
      → DefS file (tree.ExternConstructor term func (record { file = file; offset = at })) (Open at ∷ Word h head ∷ Word k second ∷ ts) rest
  -- ( extern extractor N F )
  extern_extractor : (at h k c : ℕ) (head second term func : List ℕ) (ts mid rest : List Lexeme)
      → head ≡ codes "extern" → second ≡ codes "extractor" → NameS term ts mid → NameS func mid (Close c ∷ rest)
      → DefS file (tree.ExternExtractor term func false (record { file = file; offset = at })) (Open at ∷ Word h head ∷ Word k second ∷ ts) rest
  -- ( extern extractor infallible N F )
  extern_infallible : (at h k i c : ℕ) (head second third term func : List ℕ) (ts mid rest : List Lexeme)
      → head ≡ codes "extern" → second ≡ codes "extractor" → third ≡ codes "infallible" → NameS term ts mid → NameS func mid (Close c ∷ rest)
      → DefS file (tree.ExternExtractor term func true (record { file = file; offset = at })) (Open at ∷ Word h head ∷ Word k second ∷ Word i third ∷ ts) rest
  -- ( extern const $N T )
  extern_const : (at h k d c : ℕ) (head second w name ty : List ℕ) (ts rest : List Lexeme)
      → head ≡ codes "extern" → second ≡ codes "const" → kind w ≡ word.Dollar name → NameS ty ts (Close c ∷ rest)
      → DefS file (tree.ExternConst name ty (record { file = file; offset = at })) (Open at ∷ Word h head ∷ Word k second ∷ Word d w ∷ ts) rest
  -- ( extractor ( N x* ) P )
  extractor : (at h o c : ℕ) (head term : List ℕ) (params : List (List ℕ)) (p : Pattern) (ts us mid rest : List Lexeme)
      → head ≡ codes "extractor" → NameS term ts us → Many NameS params us mid → PatternS p mid (Close c ∷ rest)
      → DefS file (tree.Extractor term params p (record { file = file; offset = at })) (Open at ∷ Word h head ∷ Open o ∷ ts) rest
  -- ( convert T T N )
  convert : (at h c : ℕ) (head from to term : List ℕ) (ts us vs rest : List Lexeme)
      → head ≡ codes "convert" → NameS from ts us → NameS to us vs → NameS term vs (Close c ∷ rest)
      → DefS file (tree.Converter from to term (record { file = file; offset = at })) (Open at ∷ Word h head ∷ ts) rest
  -- ( rule [name] [prio] ( N P* ) iflet* E )
  rule : (at h o : ℕ) (head term : List ℕ) (name : Option (List ℕ)) (prio : ℤ) (args : List Pattern) (iflets : List IfLet) (rhs : Expr) (ts us vs ws mid rest : List Lexeme)
      → head ≡ codes "rule" → RuleNameS name ts us → PrioS prio us (Open o ∷ vs) → NameS term vs ws → Many PatternS args ws mid → TailS (iflets, rhs) mid rest
      → DefS file (tree.Rule name prio term args iflets rhs (record { file = file; offset = at })) (Open at ∷ Word h head ∷ ts) rest
  -- ( phead any* )
  passed : (at h : ℕ) (head : List ℕ) (items : List Any) (ts rest : List Lexeme) → is_passed head ≡ true → Many AnyS items ts rest
      → DefS file (tree.Passed head (record { file = file; offset = at })) (Open at ∷ Word h head ∷ ts) rest

-- a file: definitions, one after the other
pub data FileS (file : ℕ) : List Lexeme → List Def → Type 0 where
  no_def : FileS file [] []
  a_def : (d : Def) (others : List Def) (ts rest : List Lexeme) → DefS file d ts rest → FileS file rest others → FileS file ts (d ∷ others)
