-- The tokens of what stands for a value, of patterns and of statements.
use Rattle.std.specs.Prelude.{ℕ, List, [], ◌∷◌, ◌++◌, Bool, true, false, Option, Some, None, codes}
use Rattle.isle_core.specs.Int.{wrapped}
use Rattle.isle_core.specs.declared.values.Callee.{Callee}
use Rattle.isle_core.specs.declared.values.Callee.TheVariants as callee
use Rattle.isle_printer.specs.Token.{Token, Word, Mark, Quoted}
use Rattle.isle_printer.specs.Number.{numeral}
use Rattle.isle_tree.specs.declared.tree.TCall.{TCall}
use Rattle.isle_tree.specs.declared.tree.Operand.{Operand}
use Rattle.isle_tree.specs.declared.tree.Operand.TheVariants as operand
use Rattle.isle_tree.specs.declared.tree.Read.{Read}
use Rattle.isle_tree.specs.declared.tree.Read.TheVariants as read
use Rattle.isle_tree.specs.declared.tree.TExpr.{TExpr}
use Rattle.isle_tree.specs.declared.tree.TExpr.TheVariants as expr
use Rattle.isle_tree.specs.declared.tree.TBind.{TBind}
use Rattle.isle_tree.specs.declared.tree.TPat.{TPat}
use Rattle.isle_tree.specs.declared.tree.TPat.TheVariants as pattern
use Rattle.isle_spelling.specs.Literal.{literal_tokens}
use Rattle.isle_spelling.specs.Raw.{raw_word}
use Rattle.isle_tree.specs.Program.{Stmt, Let, LetList, IfEq, IfLet, Match, Loop, Return, Extend, Overflow, Log, Split, Tail, Body, Done, Then, Arms, NoArm, Arm}

-- ---- what stands for a value

-- a local
abbrev pub local_token : ℕ → Token
local_token n = Word (codes "v" ++ numeral 10 n)

-- a parameter
abbrev pub param_token : ℕ → Token
param_token n = Word (codes "arg" ++ numeral 10 n)

-- a truth
abbrev pub truth_token : Bool → Token
truth_token true = Word (codes "true")
truth_token false = Word (codes "false")

-- an operand; an integer is spelled as its type's number, which u128 holds as its signed bits
abbrev pub operand_tokens : Operand → List Token
operand_tokens (operand.Local n) = local_token n ∷ []
operand_tokens (operand.Arg n) = param_token n ∷ []
operand_tokens (operand.Bool b) = truth_token b ∷ []
operand_tokens (operand.Int ty z) = literal_tokens ty (wrapped ty z)
operand_tokens (operand.Raw z) = Word (raw_word z) ∷ []
operand_tokens (operand.Name name) = Word name ∷ []

-- .clone()
abbrev pub clone_part : List Token
clone_part = Mark (codes ".") ∷ Word (codes "clone") ∷ Mark (codes "(") ∷ Mark (codes ")") ∷ []

-- an operand as it is read
abbrev pub read_tokens : Read → List Token
read_tokens (read.Plain o) = operand_tokens o
read_tokens (read.Borrow o) = Mark (codes "&") ∷ operand_tokens o
read_tokens (read.Clone o) = operand_tokens o ++ clone_part

-- a &, if something is after one
abbrev pub borrow_part : Bool → List Token
borrow_part true = Mark (codes "&") ∷ []
borrow_part false = []

-- the name of a term's function
unfoldable pub constructor_word : List ℕ → List ℕ
constructor_word term = codes "constructor_" ++ term

-- C::F(ctx
abbrev pub call_head : List ℕ → List Token
call_head name = Word (codes "C") ∷ Mark (codes "::") ∷ Word name ∷ Mark (codes "(") ∷ Word (codes "ctx") ∷ []

-- constructor_T(ctx
abbrev pub term_call_head : List ℕ → List Token
term_call_head term = Word (constructor_word term) ∷ Mark (codes "(") ∷ Word (codes "ctx") ∷ []

-- a function of the trait, or of a term, that is called, and the context
abbrev pub callee_head : Callee → List Token
callee_head (callee.External name) = call_head name
callee_head (callee.Internal term) = term_call_head term

-- the arguments of a call, each after a comma
abbrev pub args_tokens : List Read → List Token
args_tokens [] = []
args_tokens (r ∷ rs) = Mark (codes ",") ∷ (read_tokens r ++ args_tokens rs)

-- a call
abbrev pub call_tokens : Callee → List Read → List Token
call_tokens to args = callee_head to ++ (args_tokens args ++ Mark (codes ")") ∷ [])

-- f: READ,
abbrev pub field_read_tokens : List ℕ × Read → List Token
field_read_tokens f = Word f.0 ∷ Mark (codes ":") ∷ (read_tokens f.1 ++ Mark (codes ",") ∷ [])

-- the fields of a made value, and what closes them
abbrev pub field_reads_tokens : List (List ℕ × Read) → List Token
field_reads_tokens [] = Mark (codes "}") ∷ []
field_reads_tokens (f ∷ fs) = field_read_tokens f ++ field_reads_tokens fs

-- its fields between braces, if it has some
abbrev pub made_tokens : List (List ℕ × Read) → List Token
made_tokens [] = []
made_tokens (f ∷ fs) = Mark (codes "{") ∷ field_reads_tokens (f ∷ fs)

-- .as_ref(), where it stands
abbrev pub as_ref_part : Bool → List Token
as_ref_part true = Mark (codes ".") ∷ Word (codes "as_ref") ∷ Mark (codes "(") ∷ Mark (codes ")") ∷ []
as_ref_part false = []

-- what a let or a return computes
abbrev pub expr_tokens : TExpr → List Token
expr_tokens (expr.Read r) = read_tokens r
expr_tokens (expr.Call borrow call) = borrow_part borrow ++ call_tokens call.callee call.args
expr_tokens (expr.Variant ty variant fields) = Word ty ∷ Mark (codes "::") ∷ Word variant ∷ made_tokens fields
expr_tokens (expr.Struct ty fields) = Word ty ∷ made_tokens fields
expr_tokens (expr.Some r) = Word (codes "Some") ∷ Mark (codes "(") ∷ (read_tokens r ++ Mark (codes ")") ∷ [])
expr_tokens (expr.Try source as_ref) = operand_tokens source ++ (as_ref_part as_ref ++ Mark (codes "?") ∷ [])
expr_tokens (expr.Tuple source part) = operand_tokens source ++ Mark (codes ".") ∷ Word (numeral 10 part) ∷ []

-- ---- patterns

-- ref, if a field is bound by it
abbrev pub ref_part : Bool → List Token
ref_part true = Word (codes "ref") ∷ []
ref_part false = []

-- f: ref v0,
abbrev pub bind_tokens : TBind → List Token
bind_tokens b = Word b.field ∷ Mark (codes ":") ∷ (ref_part b.by_ref ++ local_token b.local ∷ Mark (codes ",") ∷ [])

-- .., if fields are left out
abbrev pub more_part : Bool → List Token
more_part true = Mark (codes "..") ∷ []
more_part false = []

-- the fields that are bound, those left out, and what closes them
abbrev pub binds_tokens : List TBind → Bool → List Token
binds_tokens [] more = more_part more ++ Mark (codes "}") ∷ []
binds_tokens (b ∷ bs) more = bind_tokens b ++ binds_tokens bs more

-- these between braces, if there are any
abbrev pub braced_tokens : List TBind → Bool → List Token
braced_tokens [] false = []
braced_tokens [] true = Mark (codes "{") ∷ binds_tokens [] true
braced_tokens (b ∷ bs) more = Mark (codes "{") ∷ binds_tokens (b ∷ bs) more

-- the local within Some(..), or _
abbrev pub inner_token : Option ℕ → Token
inner_token None = Word (codes "_")
inner_token (Some n) = local_token n

-- a pattern
abbrev pub pattern_tokens : TPat → List Token
pattern_tokens (pattern.Const o) = operand_tokens o
pattern_tokens (pattern.Variant ty variant binds more) = Mark (codes "&") ∷ Word ty ∷ Mark (codes "::") ∷ Word variant ∷ braced_tokens binds more
pattern_tokens (pattern.Struct ty binds more) = Mark (codes "&") ∷ Word ty ∷ braced_tokens binds more
pattern_tokens (pattern.Some local) = Word (codes "Some") ∷ Mark (codes "(") ∷ inner_token local ∷ Mark (codes ")") ∷ []

-- ---- statements

-- what a block or an item ends with
abbrev pub close : List Token
close = Mark (codes "}") ∷ []

-- let v0 = EXPR;
abbrev pub let_tokens : ℕ → TExpr → List Token
let_tokens n e = Word (codes "let") ∷ local_token n ∷ Mark (codes "=") ∷ (expr_tokens e ++ Mark (codes ";") ∷ [])

-- the type of the list that a function of the trait fills
abbrev pub returns_word : List ℕ → List ℕ
returns_word name = name ++ codes "_returns"

-- ContextIterWrapper::<ConstructorVec<_>, _>
abbrev pub any_list : List Token
any_list =
    Word (codes "ContextIterWrapper") ∷ Mark (codes "::") ∷ Mark (codes "<") ∷ Word (codes "ConstructorVec") ∷ Mark (codes "<") ∷ Word (codes "_") ∷ Mark (codes ">")
    ∷ Mark (codes ",") ∷ Word (codes "_") ∷ Mark (codes ">")
    ∷ []

-- the type of the list that is filled: the function's own if it is one of the trait
abbrev pub list_tokens : Callee → List Token
list_tokens (callee.External name) = Word (codes "C") ∷ Mark (codes "::") ∷ Word (returns_word name) ∷ []
list_tokens (callee.Internal term) = any_list

-- let mut v0 =
abbrev pub let_mut_head : ℕ → List Token
let_mut_head n = Word (codes "let") ∷ Word (codes "mut") ∷ local_token n ∷ Mark (codes "=") ∷ []

-- ::default();
abbrev pub default_part : List Token
default_part = Mark (codes "::") ∷ Word (codes "default") ∷ Mark (codes "(") ∷ Mark (codes ")") ∷ Mark (codes ";") ∷ []

-- , &mut v0);
abbrev pub list_end : ℕ → List Token
list_end n = Mark (codes ",") ∷ Mark (codes "&") ∷ Word (codes "mut") ∷ local_token n ∷ Mark (codes ")") ∷ Mark (codes ";") ∷ []

-- let mut v0 = LIST::default(); and the call that fills it
abbrev pub let_list_tokens : ℕ → TCall → List Token
let_list_tokens n call = let_mut_head n ++ (list_tokens call.callee ++ (default_part ++ (callee_head call.callee ++ (args_tokens call.args ++ list_end n))))

-- .into_context_iter();
abbrev pub into_part : List Token
into_part = Mark (codes ".") ∷ Word (codes "into_context_iter") ∷ Mark (codes "(") ∷ Mark (codes ")") ∷ Mark (codes ";") ∷ []

-- while let Some(
abbrev pub while_part : List Token
while_part = Word (codes "while") ∷ Word (codes "let") ∷ Word (codes "Some") ∷ Mark (codes "(") ∷ []

-- ) = v0.next(ctx) {
abbrev pub next_part : ℕ → List Token
next_part list =
    Mark (codes ")") ∷ Mark (codes "=") ∷ local_token list ∷ Mark (codes ".") ∷ Word (codes "next") ∷ Mark (codes "(") ∷ Word (codes "ctx") ∷ Mark (codes ")") ∷ Mark (codes "{")
    ∷ []

-- let mut v0 = v0.into_context_iter(); while let Some(v1) = v0.next(ctx) {
unfoldable pub loop_head : ℕ → ℕ → List Token
loop_head list item = let_mut_head list ++ local_token list ∷ (into_part ++ (while_part ++ local_token item ∷ next_part list))

-- returns.extend(Some(
abbrev pub extend_head : List Token
extend_head = Word (codes "returns") ∷ Mark (codes ".") ∷ Word (codes "extend") ∷ Mark (codes "(") ∷ Word (codes "Some") ∷ Mark (codes "(") ∷ []

-- returns.extend(Some(READ));
abbrev pub extend_tokens : Read → List Token
extend_tokens r = extend_head ++ (read_tokens r ++ Mark (codes ")") ∷ Mark (codes ")") ∷ Mark (codes ";") ∷ [])

-- { return; }, or { return true; } inside a closure
abbrev pub stop_tokens : Bool → List Token
stop_tokens true = Mark (codes "{") ∷ Word (codes "return") ∷ Word (codes "true") ∷ Mark (codes ";") ∷ Mark (codes "}") ∷ []
stop_tokens false = Mark (codes "{") ∷ Word (codes "return") ∷ Mark (codes ";") ∷ Mark (codes "}") ∷ []

-- len() >=
abbrev pub full_part : List Token
full_part = Word (codes "len") ∷ Mark (codes "(") ∷ Mark (codes ")") ∷ Mark (codes ">=") ∷ []

-- if returns.len() >= 100 { return; }
abbrev pub overflow_tokens : Bool → ℕ → List Token
overflow_tokens within limit =
    Word (codes "if") ∷ Word (codes "returns") ∷ Mark (codes ".") ∷ (full_part ++ Word (numeral 10 limit) ∷ stop_tokens within)

-- (|| -> bool {
abbrev pub closure_head : List Token
closure_head = Mark (codes "(") ∷ Mark (codes "||") ∷ Mark (codes "->") ∷ Word (codes "bool") ∷ Mark (codes "{") ∷ []

-- false })()
abbrev pub closure_end : List Token
closure_end = Word (codes "false") ∷ Mark (codes "}") ∷ Mark (codes ")") ∷ Mark (codes "(") ∷ Mark (codes ")") ∷ []

-- if (|| -> bool {
unfoldable pub split_head : List Token
split_head = Word (codes "if") ∷ closure_head

-- false })() { return; }
unfoldable pub split_end : Bool → List Token
split_end within = closure_end ++ stop_tokens within

-- return EXPR;
abbrev pub return_tokens : TExpr → List Token
return_tokens e = Word (codes "return") ∷ (expr_tokens e ++ Mark (codes ";") ∷ [])

-- if OP == OP {
abbrev pub if_eq_head : Operand → Operand → List Token
if_eq_head a b = Word (codes "if") ∷ (operand_tokens a ++ Mark (codes "==") ∷ (operand_tokens b ++ Mark (codes "{") ∷ []))

-- if let PAT = READ {
abbrev pub if_let_head : TPat → Read → List Token
if_let_head pat r = Word (codes "if") ∷ Word (codes "let") ∷ (pattern_tokens pat ++ Mark (codes "=") ∷ (read_tokens r ++ Mark (codes "{") ∷ []))

-- match READ {
abbrev pub match_head : Read → List Token
match_head r = Word (codes "match") ∷ (read_tokens r ++ Mark (codes "{") ∷ [])

-- PAT => {
abbrev pub arm_head : TPat → List Token
arm_head pat = pattern_tokens pat ++ Mark (codes "=>") ∷ Mark (codes "{") ∷ []

-- _ => {} }
abbrev pub match_end : List Token
match_end = Word (codes "_") ∷ Mark (codes "=>") ∷ Mark (codes "{") ∷ Mark (codes "}") ∷ Mark (codes "}") ∷ []

-- what is said if no rule of a term that must answer matches
unfoldable pub no_rule : List ℕ
no_rule = codes "no rule matched for term {} at {}; should it be partial?"

-- unreachable!(
abbrev pub unreachable_head : List Token
unreachable_head = Word (codes "unreachable") ∷ Mark (codes "!") ∷ Mark (codes "(") ∷ []

-- "no rule ..", "TERM", "PLACE")
abbrev pub texts_tokens : List ℕ → List ℕ → List Token
texts_tokens term place = Quoted no_rule ∷ Mark (codes ",") ∷ Quoted term ∷ Mark (codes ",") ∷ Quoted place ∷ Mark (codes ")") ∷ []

-- what a log line says of a rule
unfoldable pub log_format : List ℕ
log_format = codes "ISLE {} {}"

-- log::debug!("ISLE {} {}",
abbrev pub log_head : List Token
log_head = Word (codes "log") ∷ Mark (codes "::") ∷ Word (codes "debug") ∷ Mark (codes "!") ∷ Mark (codes "(") ∷ Quoted log_format ∷ Mark (codes ",") ∷ []

-- log::debug!("ISLE {} {}", "TERM", "PLACE");
unfoldable pub log_tokens : List ℕ → List ℕ → List Token
log_tokens term place = log_head ++ Quoted term ∷ Mark (codes ",") ∷ Quoted place ∷ Mark (codes ")") ∷ Mark (codes ";") ∷ []

-- the last statement of a function whose rules may not match
abbrev pub tail_tokens : Option (List ℕ × List ℕ) → List Token
tail_tokens None = Word (codes "None") ∷ []
tail_tokens (Some texts) = unreachable_head ++ texts_tokens texts.0 texts.1

-- statements, one after the other
abbrev mutual
  pub stmt_tokens : Stmt → List Token
  stmt_tokens (Let n e) = let_tokens n e
  stmt_tokens (LetList n call) = let_list_tokens n call
  stmt_tokens (IfEq a b inside) = if_eq_head a b ++ (body_tokens inside ++ close)
  stmt_tokens (IfLet pat r inside) = if_let_head pat r ++ (body_tokens inside ++ close)
  stmt_tokens (Match r arms) = match_head r ++ arms_tokens arms
  stmt_tokens (Loop list item inside) = loop_head list item ++ (body_tokens inside ++ close)
  stmt_tokens (Return e) = return_tokens e
  stmt_tokens (Extend r) = extend_tokens r
  stmt_tokens (Overflow within limit) = overflow_tokens within limit
  stmt_tokens (Log term place) = log_tokens term place
  stmt_tokens (Split inside within) = split_head ++ (body_tokens inside ++ split_end within)
  stmt_tokens (Tail texts) = tail_tokens texts

  pub body_tokens : Body → List Token
  body_tokens Done = []
  body_tokens (Then s ss) = stmt_tokens s ++ body_tokens ss

  -- the arms of a match, and what closes it
  pub arms_tokens : Arms → List Token
  arms_tokens NoArm = match_end
  arms_tokens (Arm pat inside arms) = arm_head pat ++ (body_tokens inside ++ (close ++ arms_tokens arms))
