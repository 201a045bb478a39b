-- Readers of the grammar's forms.
use Rattle.std.specs.Prelude.{◌≡◌, ℕ, zero, suc, ◌-◌, ℤ, pos, negsuc, ◌^◌, List, [], ◌∷◌, Bool, true, false, nat_lt, if◌then◌else◌, Option, Some, None, option_map, is_some, bytes_eq, codes}
use Rattle.isle_lexer.specs.Lexeme.{Lexeme}
use Rattle.isle_lexer.specs.Word.{WordKind, Number, Malformed, Truth, Dollar, Underscore, Plain, kind, is_flag}
use Rattle.isle_reading.specs.Reader.{Reader, Ret, Ask, Peek, End, Halt, bind}
use Rattle.isle_reading.specs.Combinators.{is_open, is_close, is_at, refuse, given, read_open, read_close, read_at, read_word, read_optional, words_from, many, some, all, Both, OnlyFirst, OnlySecond, BothGot, both}
use Rattle.isle_reading.specs.Names.{name_of, read_name}
use Rattle.isle_reading.specs.Nesting.{most_open, is_passed}
use Rattle.isle_grammar.specs.PassedOver.{Any, anys_of}
use Rattle.isle_grammar.specs.PassedOver as passed_over
use Rattle.isle_ast.specs.Tree.{Pattern, Expr, IfLet, Def}
use Rattle.isle_ast.specs.Tree as tree
use Rattle.isle_ast.specs.Views.{patterns_of, exprs_of, SeenBinding, lets_of}
use Rattle.isle_ast.specs.declared.tree.AstBody.{AstBody}
use Rattle.isle_ast.specs.declared.tree.AstBody.TheVariants as body
use Rattle.isle_ast.specs.declared.tree.AstFields.{AstFields}
use Rattle.isle_ast.specs.declared.tree.AstFields.TheVariants as fields
use Rattle.isle_ast.specs.declared.tree.AstVariant.{AstVariant}
use Rattle.isle_grammar.specs.Grammar.{pattern_of, PatternHead, pattern_head, listed, expr_of, ExprHead, IsLet, IsCall, expr_head, IfHead, IsIfLet, IsIf, if_head, BodyHead, IsPrimitive, IsEnum, IsStruct, body_head, any_of, Flags, no_flags, with_flag, Marks, no_marks, with_mark}

-- ---- patterns

-- what a pattern's first word is: a pattern after which no `@` may stand, or a symbol
pub data First : Type 0 where
  Leaf : Pattern → First
  Symbol : List ℕ → First

abbrev pub first_of : List ℕ → WordKind → Option First
first_of w (Number n) = Some (Leaf (tree.Int n))
first_of w Malformed = None
first_of w (Truth b) = Some (Symbol w)
first_of w (Dollar name) = Some (Leaf (tree.Const name))
first_of w Underscore = Some (Symbol w)
first_of w Plain = Some (Symbol w)

unfoldable pub read_first : Reader First
read_first = read_word (λ w. first_of w (kind w))

-- the pattern that a symbol is by itself
abbrev pub symbol_of : List ℕ → WordKind → Pattern
symbol_of w (Number n) = tree.Var w
symbol_of w Malformed = tree.Var w
symbol_of w (Truth b) = tree.Truth b
symbol_of w (Dollar name) = tree.Var w
symbol_of w Underscore = tree.Wildcard
symbol_of w Plain = tree.Var w

-- after a pattern's first word, with what stands after an `@`
abbrev pub suffix : (List ℕ → Reader Pattern) → First → Reader Pattern
suffix binds (Leaf p) = Ret p
suffix binds (Symbol w) = Peek is_at (binds w) (Ret (symbol_of w (kind w)))

unfoldable pub read_pattern_head : Reader PatternHead
read_pattern_head = read_word pattern_head

-- a pattern inside which d more may be open, its lists of at most n tokens
unfoldable pub read_pattern : ℕ → ℕ → Reader Pattern
read_pattern n zero = Peek is_open Halt (bind read_first (suffix (λ x. Halt)))
read_pattern n (suc d) = Peek is_open (bind read_open (λ o. bind read_pattern_head (λ h. bind (many n (read_pattern n d)) (λ ps. Ret (listed h (patterns_of ps))))))
    (bind read_first (suffix (λ x. bind read_at (λ a. bind (read_pattern n d) (λ p. Ret (tree.Bind x p))))))

-- after an `@`, if d more may be open
unfoldable pub read_binds : ℕ → ℕ → List ℕ → Reader Pattern
read_binds n zero x = Halt
read_binds n (suc d) x = bind read_at (λ a. bind (read_pattern n d) (λ p. Ret (tree.Bind x p)))

-- after the symbol that a pattern begins with
unfoldable pub read_symbol : ℕ → ℕ → List ℕ → Reader Pattern
read_symbol n d x = Peek is_at (read_binds n d x) (Ret (symbol_of x (kind x)))

-- a pattern that begins with a word
unfoldable pub read_worded : ℕ → ℕ → Reader Pattern
read_worded n d = bind read_first (suffix (read_binds n d))

-- a pattern's list, whose patterns are read so
unfoldable pub read_listed : ℕ → Reader Pattern → Reader Pattern
read_listed n r = bind read_open (λ o. bind read_pattern_head (λ h. bind (many n r) (λ ps. Ret (listed h (patterns_of ps)))))

-- what a word of this kind is that begins with `$`
abbrev pub constant_first : Option (List ℕ) → Option First
constant_first o = option_map (λ name. Leaf (tree.Const name)) o

-- ---- expressions

-- an expression of one word
unfoldable pub read_leaf : Reader Expr
read_leaf = read_word (λ w. expr_of w (kind w))

unfoldable pub read_expr_head : Reader ExprHead
read_expr_head = read_word expr_head

-- after the first word of an expression's list
abbrev pub expr_behind : ℕ → Reader Expr → Reader (List SeenBinding) → ExprHead → Reader Expr
expr_behind n inner bs IsLet = bind bs (λ ls. bind inner (λ e. bind read_close (λ c. Ret (tree.Let (lets_of ls) e))))
expr_behind n inner bs (IsCall w) = bind (many n inner) (λ es. Ret (tree.Call w (exprs_of es)))

unfoldable mutual
  -- an expression inside which d more may be open, its lists of at most n tokens
  pub read_expr : ℕ → ℕ → Reader Expr
  read_expr n zero = Peek is_open Halt read_leaf
  read_expr n (suc d) = Peek is_open (bind read_open (λ o. bind read_expr_head (λ h. expr_behind n (read_expr n d) (read_bindings n d) h))) read_leaf

  -- ( ( x T E )* )
  pub read_bindings : ℕ → ℕ → Reader (List SeenBinding)
  read_bindings n zero = Peek is_open Halt refuse
  read_bindings n (suc d) = bind read_open (λ o. many n (read_binding n d))

  -- ( x T E )
  pub read_binding : ℕ → ℕ → Reader SeenBinding
  read_binding n zero = Peek is_open Halt refuse
  read_binding n (suc d) = bind read_open (λ o. bind read_name (λ x. bind read_name (λ t. bind (read_expr n d) (λ e. bind read_close (λ c. Ret (x, t, e))))))

-- after ( let
unfoldable pub read_let : ℕ → ℕ → Reader Expr
read_let n d = bind (read_bindings n d) (λ ls. bind (read_expr n d) (λ e. bind read_close (λ c. Ret (tree.Let (lets_of ls) e))))

-- an expression's list
unfoldable pub read_form_list : ℕ → ℕ → Reader Expr
read_form_list n d = bind read_open (λ o. bind read_expr_head (λ h. expr_behind n (read_expr n d) (read_bindings n d) h))

-- ---- conditions, and a rule's right side

unfoldable pub read_if_head : Reader IfHead
read_if_head = read_word if_head

abbrev pub if_behind : ℕ → ℕ → IfHead → Reader IfLet
if_behind n d IsIfLet = bind (read_pattern n d) (λ p. bind (read_expr n d) (λ e. bind read_close (λ c. Ret (record { lhs = p; rhs = e }))))
if_behind n d IsIf = bind (read_expr n d) (λ e. bind read_close (λ c. Ret (record { lhs = tree.Wildcard; rhs = e })))

-- a condition, inside whose parenthesis d more may be open
unfoldable pub read_iflet : ℕ → ℕ → Reader IfLet
read_iflet n d = bind read_open (λ o. bind read_if_head (λ h. if_behind n d h))

-- an expression, a condition, or both
unfoldable pub read_form : ℕ → Reader (Both Expr IfLet)
read_form n = both (read_expr n (most_open - 1)) (read_iflet n (most_open - 2))

-- after a form that is a rule's right side, a condition, or both
abbrev pub behind_form : Reader (List IfLet × Expr) → Both Expr IfLet → Reader (List IfLet × Expr)
behind_form others (OnlyFirst e) = bind read_close (λ c. Ret ([], e))
behind_form others (OnlySecond i) = bind others (λ x. Ret (i ∷ x.0, x.1))
behind_form others (BothGot e i) = Peek is_close (bind read_close (λ c. Ret ([], e))) (bind others (λ x. Ret (i ∷ x.0, x.1)))

-- iflet* E ), of at most k tokens
unfoldable pub read_tail : ℕ → ℕ → Reader (List IfLet × Expr)
read_tail n zero = End refuse Halt
read_tail n (suc k) = bind (read_form n) (behind_form (read_tail n k))

-- what a form after a rule's head is, by what follows it
pub data Step : Type 0 where
  Last : Expr → Step
  More : IfLet → Step

-- the last form, and the parenthesis after it
abbrev pub last_of : Expr → Reader Step
last_of e = bind read_close (λ c. Ret (Last e))

abbrev pub settled : Both Expr IfLet → Reader Step
settled (OnlyFirst e) = last_of e
settled (OnlySecond i) = Ret (More i)
settled (BothGot e i) = Peek is_close (last_of e) (Ret (More i))

unfoldable pub read_step : ℕ → Reader Step
read_step n = bind (read_form n) settled

-- ---- what types are declared as

-- ( f T )
unfoldable pub read_field : Reader (List ℕ × List ℕ)
read_field = bind read_open (λ o. bind read_name (λ f. bind read_name (λ t. bind read_close (λ c. Ret (f, t)))))

-- shape ), of at most n tokens
unfoldable pub read_shape : ℕ → Reader AstFields
read_shape zero = End refuse Halt
read_shape (suc k) = Peek is_close (bind read_close (λ c. Ret fields.Unit))
    (Peek is_open (bind (some k read_field) (λ fs. Ret (fields.Named fs))) (bind (some k read_name) (λ ts. Ret (fields.Tuple ts))))

unfoldable pub read_shaped : ℕ → Reader AstVariant
read_shaped n = bind read_open (λ o. bind read_name (λ name. bind (read_shape n) (λ fs. Ret (record { name = name; fields = fs }))))

-- V or ( V shape )
unfoldable pub read_variant : ℕ → Reader AstVariant
read_variant n = Peek is_open (read_shaped n) (bind read_name (λ name. Ret (record { name = name; fields = fields.Unit })))

unfoldable pub read_body_head : Reader BodyHead
read_body_head = read_word body_head

abbrev pub body_behind : ℕ → BodyHead → Reader AstBody
body_behind n IsPrimitive = bind read_name (λ name. bind read_close (λ c. Ret (body.Primitive name)))
body_behind n IsEnum = bind (many n (read_variant n)) (λ vs. Ret (body.Enum vs))
body_behind n IsStruct = bind (read_shape n) (λ fs. Ret (body.Struct fs))

unfoldable pub read_body : ℕ → Reader AstBody
read_body n = bind read_open (λ o. bind read_body_head (λ h. body_behind n h))

-- ---- lists that are passed over

-- a token that is no parenthesis
unfoldable pub read_token : Reader Any
read_token = Ask (λ t. is_some (any_of t)) (λ t. given (any_of t))

-- the thing that is next
abbrev pub next_any : List Lexeme → Option Any
next_any [] = None
next_any (t ∷ ts) = any_of t

-- a thing inside which d more parentheses may be open
unfoldable pub read_any : ℕ → ℕ → Reader Any
read_any n zero = Peek is_open Halt read_token
read_any n (suc d) = Peek is_open (bind read_open (λ o. bind (many n (read_any n d)) (λ items. Ret (passed_over.Nested (anys_of items))))) read_token

-- ---- words of definitions

-- the name of a rule, or none
unfoldable pub read_rule_name : Reader (Option (List ℕ))
read_rule_name = read_optional (λ w. option_map (λ name. Some name) (name_of w)) None

-- a number of 64 signed bits
abbrev pub in_64_bits : ℤ → Bool
in_64_bits (pos n) = nat_lt n (2 ^ 63)
in_64_bits (negsuc n) = nat_lt n (2 ^ 63)

-- the priority that a word of this kind is
abbrev pub prio_of : WordKind → Option ℤ
prio_of (Number n) = if in_64_bits n then Some n else None
prio_of Malformed = None
prio_of (Truth b) = None
prio_of (Dollar name) = None
prio_of Underscore = None
prio_of Plain = None

-- a priority, or none, which is 0
unfoldable pub read_prio : Reader ℤ
read_prio = read_optional (λ w. prio_of (kind w)) (pos 0)

unfoldable pub read_flags : Reader Flags
read_flags = words_from 4 with_flag no_flags

unfoldable pub read_marks : Reader Marks
read_marks = words_from 2 with_mark no_marks

-- a name that is no flag
abbrev pub decl_name_of : List ℕ → Option (List ℕ)
decl_name_of w = if is_flag w then None else name_of w

-- the name that a `decl` declares
unfoldable pub read_decl_name : Reader (List ℕ)
read_decl_name = read_word decl_name_of

-- the name of a constant, which stands after a `$`
abbrev pub constant_of : WordKind → Option (List ℕ)
constant_of (Number n) = None
constant_of Malformed = None
constant_of (Truth b) = None
constant_of (Dollar name) = Some name
constant_of Underscore = None
constant_of Plain = None

unfoldable pub read_constant : Reader (List ℕ)
read_constant = read_word (λ w. constant_of (kind w))

-- ---- definitions, after their first word

-- after ( type
unfoldable pub read_type : ℕ → ℕ → ℕ → Reader Def
read_type n file at = bind read_name (λ name. bind read_marks (λ marks. bind (read_body n) (λ b. bind read_close (λ c. Ret (tree.TypeDecl name marks.is_extern marks.is_nodebug b (record { file = file; offset = at }))))))

-- after the flags of ( decl
unfoldable pub read_declared : ℕ → ℕ → ℕ → Flags → Reader Def
read_declared n file at flags = bind read_decl_name (λ term. bind read_open (λ o. bind (many n read_name) (λ args. bind read_name (λ ret. bind read_close (λ c.
    Ret (tree.Decl term flags.pure flags.multi flags.partial flags.recursive args ret (record { file = file; offset = at })))))))

-- after ( decl
unfoldable pub read_decl : ℕ → ℕ → ℕ → Reader Def
read_decl n file at = bind read_flags (read_declared n file at)

-- what an `extern` is, by its second word
pub data ExternHead : Type 0 where
  IsConstructor : ExternHead
  IsExtractor : ExternHead
  IsConst : ExternHead

abbrev pub extern_head : List ℕ → Option ExternHead
extern_head w =
    if bytes_eq w (codes "constructor") then Some IsConstructor
    else (if bytes_eq w (codes "extractor") then Some IsExtractor
    else (if bytes_eq w (codes "const") then Some IsConst
    else None))

unfoldable pub read_extern_head : Reader ExternHead
read_extern_head = read_word extern_head

unfoldable pub read_constructor : ℕ → ℕ → Reader Def
read_constructor file at = bind read_name (λ term. bind read_name (λ func. bind read_close (λ c. Ret (tree.ExternConstructor term func (record { file = file; offset = at })))))

-- the end of an extractor
unfoldable pub read_fallible : ℕ → ℕ → List ℕ → List ℕ → Reader Def
read_fallible file at term func = bind read_close (λ c. Ret (tree.ExternExtractor term func false (record { file = file; offset = at })))

-- what stands after two names of which the first is the word `infallible`
unfoldable pub read_infallible : ℕ → ℕ → List ℕ → Reader Def
read_infallible file at term = bind read_name (λ func. bind read_close (λ c. Ret (tree.ExternExtractor term func true (record { file = file; offset = at }))))

-- after two names: whether the first is the word `infallible` says whether a third one may follow
abbrev pub extractor_behind : ℕ → ℕ → Bool → List ℕ → List ℕ → Reader Def
extractor_behind file at true term func = Peek is_close (read_fallible file at term func) (read_infallible file at func)
extractor_behind file at false term func = read_fallible file at term func

unfoldable pub read_extractor_function : ℕ → ℕ → Reader Def
read_extractor_function file at = bind read_name (λ term. bind read_name (λ func. extractor_behind file at (bytes_eq term (codes "infallible")) term func))

unfoldable pub read_const : ℕ → ℕ → Reader Def
read_const file at = bind read_constant (λ name. bind read_name (λ ty. bind read_close (λ c. Ret (tree.ExternConst name ty (record { file = file; offset = at })))))

abbrev pub extern_behind : ℕ → ℕ → ExternHead → Reader Def
extern_behind file at IsConstructor = read_constructor file at
extern_behind file at IsExtractor = read_extractor_function file at
extern_behind file at IsConst = read_const file at

-- after ( extern
unfoldable pub read_extern : ℕ → ℕ → Reader Def
read_extern file at = bind read_extern_head (λ h. extern_behind file at h)

-- a pattern inside the parenthesis of a definition, and inside a list there
unfoldable pub read_template : ℕ → Reader Pattern
read_template n = read_pattern n (most_open - 1)

unfoldable pub read_argument : ℕ → Reader Pattern
read_argument n = read_pattern n (most_open - 2)

-- after ( extractor
unfoldable pub read_extractor : ℕ → ℕ → ℕ → Reader Def
read_extractor n file at = bind read_open (λ o. bind read_name (λ term. bind (many n read_name) (λ params. bind (read_template n) (λ p. bind read_close (λ c.
    Ret (tree.Extractor term params p (record { file = file; offset = at })))))))

-- after ( convert
unfoldable pub read_convert : ℕ → ℕ → Reader Def
read_convert file at = bind read_name (λ from. bind read_name (λ to. bind read_name (λ term. bind read_close (λ c. Ret (tree.Converter from to term (record { file = file; offset = at }))))))

-- ( N P* )
unfoldable pub read_parts : ℕ → Reader (List ℕ × List Pattern)
read_parts n = bind read_open (λ o. bind read_name (λ term. bind (many n (read_argument n)) (λ args. Ret (term, args))))

-- after ( rule
unfoldable pub read_rule : ℕ → ℕ → ℕ → Reader Def
read_rule n file at = bind read_rule_name (λ name. bind read_prio (λ prio. bind (read_parts n) (λ parts. bind (read_tail n n) (λ x.
    Ret (tree.Rule name prio parts.0 parts.1 x.0 x.1 (record { file = file; offset = at }))))))

-- after the first word of a list that is passed over
unfoldable pub read_passed : ℕ → ℕ → ℕ → List ℕ → Reader Def
read_passed n file at head = bind (many n (read_any n (most_open - 1))) (λ items. Ret (tree.Passed head (record { file = file; offset = at })))

-- ---- definitions

-- what a definition is, by the word that it begins with
pub data Head : Type 0 where
  TypeHead : Head
  DeclHead : Head
  RuleHead : Head
  AnExternHead : Head
  ExtractorHead : Head
  ConvertHead : Head
  PassedHead : (word : List ℕ) → Head

-- what a definition is that begins with the word
abbrev pub head_of : List ℕ → Option Head
head_of w =
    if bytes_eq w (codes "type") then Some TypeHead
    else (if bytes_eq w (codes "decl") then Some DeclHead
    else (if bytes_eq w (codes "rule") then Some RuleHead
    else (if bytes_eq w (codes "extern") then Some AnExternHead
    else (if bytes_eq w (codes "extractor") then Some ExtractorHead
    else (if bytes_eq w (codes "convert") then Some ConvertHead
    else (if is_passed w then Some (PassedHead w)
    else None))))))

-- what a definition is
unfoldable pub read_head : Reader Head
read_head = read_word head_of

-- after a head
abbrev pub read_behind : ℕ → ℕ → ℕ → Head → Reader Def
read_behind n file at TypeHead = read_type n file at
read_behind n file at DeclHead = read_decl n file at
read_behind n file at RuleHead = read_rule n file at
read_behind n file at AnExternHead = read_extern file at
read_behind n file at ExtractorHead = read_extractor n file at
read_behind n file at ConvertHead = read_convert file at
read_behind n file at (PassedHead w) = read_passed n file at w

-- a definition of the file of that number, its lists of at most n tokens
unfoldable pub read_def : ℕ → ℕ → Reader Def
read_def n file = bind read_open (λ at. bind read_head (λ head. read_behind n file at head))

-- a file of at most n tokens
abbrev pub read_file : ℕ → ℕ → Reader (List Def)
read_file n file = all n (read_def n file)
