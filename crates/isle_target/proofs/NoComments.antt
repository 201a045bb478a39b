-- No comment is among the tokens of a program.
use Rattle.std.proofs.Common.{◌≡◌, ℕ, zero, suc, List, [], ◌∷◌, ◌++◌, length, Bool, true, false, Option, Some, None, refl}
use Rattle.std.specs.Prelude.{codes, ℤ, pos, negsuc, ◌+◌}
use Rattle.std.specs.List.{list_all}
use Rattle.isle_printer.specs.Token.{Token, Word, Mark, is_read, step, begun}
use Rattle.isle_printer.specs.Number.{numeral}
use Rattle.isle_printer.proofs.Comments.{both_read}
use Rattle.isle_core.specs.Int.{wrapped}
use Rattle.isle_core.specs.declared.types.IntType.{IntType}
use Rattle.isle_core.specs.declared.values.Callee.{Callee}
use Rattle.isle_core.specs.declared.values.Callee.TheVariants as callee
use Rattle.isle_core.specs.declared.types.ReturnKind.{ReturnKind}
use Rattle.isle_core.specs.declared.types.ReturnKind.TheVariants as kind
use Rattle.isle_spelling.specs.Fixed.{allow_tokens, uses_tokens, fixed_tokens}
use Rattle.isle_spelling.specs.Literal.{literal_tokens}
use Rattle.isle_tree.specs.declared.tree.Ty.{Ty}
use Rattle.isle_tree.specs.declared.tree.TraitFn.{TraitFn}
use Rattle.isle_tree.specs.declared.tree.TFields.{TFields}
use Rattle.isle_tree.specs.declared.tree.TFields.TheVariants as shape
use Rattle.isle_tree.specs.declared.tree.TypeBody.{TypeBody}
use Rattle.isle_tree.specs.declared.tree.TypeBody.TheVariants as type_body
use Rattle.isle_tree.specs.declared.tree.TypeItem.{TypeItem}
use Rattle.isle_tree.specs.Plain.{is_plain}
use Rattle.isle_tree.specs.declared.tree.Operand.{Operand}
use Rattle.isle_tree.specs.declared.tree.Operand.TheVariants as operand
use Rattle.isle_tree.specs.declared.tree.Read.{Read}
use Rattle.isle_tree.specs.declared.tree.Read.TheVariants as read
use Rattle.isle_tree.specs.declared.tree.TExpr.{TExpr}
use Rattle.isle_tree.specs.declared.tree.TExpr.TheVariants as expr
use Rattle.isle_tree.specs.declared.tree.TBind.{TBind}
use Rattle.isle_tree.specs.declared.tree.TPat.{TPat}
use Rattle.isle_tree.specs.declared.tree.TPat.TheVariants as pattern
use Rattle.isle_tree.specs.Program.{Stmt, Let, LetList, IfEq, IfLet, Match, Loop, Return, Extend, Overflow, Log, Split, Tail, Body, Done, Then, Arms, NoArm, Arm, Function, Program}
use Rattle.isle_target.specs.StatementSpelling.{local_token, truth_token, operand_tokens, clone_part, read_tokens, borrow_part, callee_head, args_tokens, call_tokens, field_read_tokens, field_reads_tokens, made_tokens, as_ref_part, expr_tokens, ref_part, bind_tokens, binds_tokens, braced_tokens, pattern_tokens, close, list_tokens, default_part, list_end, let_list_tokens, loop_head, stop_tokens, split_head, split_end, if_eq_head, if_let_head, match_head, arm_head, log_tokens, tail_tokens, stmt_tokens, body_tokens, arms_tokens}
use Rattle.isle_target.specs.Spelling.{typed_tokens, param_tokens, params_tokens, result_tokens, result_part, function_tokens, functions_tokens, allow_part, comma, joined_tokens, returns_param, joined_end, joined_types, item_tokens, results_tokens, list_type, trait_fn_tokens, trait_fns_tokens, trait_tokens, visible, named_tokens, places_tokens, fields_tokens, variant_tokens, variants_tokens, struct_end, type_body_tokens, derive_tokens, type_tokens, types_tokens, program_tokens}

-- none of the tokens is a comment
abbrev AreRead : List Token → Type 0
AreRead ts = list_all is_read ts ≡ true

literal_read : (ty : IntType) (z : ℤ) → AreRead (literal_tokens ty z)
literal_read ty (pos n) = refl
literal_read ty (negsuc n) = refl

truth_read : (b : Bool) → AreRead (truth_token b ∷ [])
truth_read true = refl
truth_read false = refl

operand_read : (o : Operand) → AreRead (operand_tokens o)
operand_read (operand.Local n) = refl
operand_read (operand.Arg n) = refl
operand_read (operand.Bool b) = truth_read b
operand_read (operand.Int ty z) = literal_read ty (wrapped ty z)
operand_read (operand.Raw z) = refl
operand_read (operand.Name name) = refl

read_read : (r : Read) → AreRead (read_tokens r)
read_read (read.Plain o) = operand_read o
read_read (read.Borrow o) = operand_read o
read_read (read.Clone o) = both_read (operand_tokens o) clone_part (operand_read o) refl

args_read : (rs : List Read) → AreRead (args_tokens rs)
args_read [] = refl
args_read (r ∷ rs) = both_read (read_tokens r) (args_tokens rs) (read_read r) (args_read rs)

callee_read : (c : Callee) → AreRead (callee_head c)
callee_read (callee.External name) = refl
callee_read (callee.Internal term) = refl

call_read : (c : Callee) (rs : List Read) → AreRead (call_tokens c rs)
call_read c rs = both_read (callee_head c) _ (callee_read c) (both_read (args_tokens rs) (Mark (codes ")") ∷ []) (args_read rs) refl)

borrow_read : (borrow : Bool) → AreRead (borrow_part borrow)
borrow_read true = refl
borrow_read false = refl

field_reads_read : (fs : List (List ℕ × Read)) → AreRead (field_reads_tokens fs)
field_reads_read [] = refl
field_reads_read (f ∷ fs) =
    both_read (field_read_tokens f) (field_reads_tokens fs) (both_read (read_tokens f.1) (Mark (codes ",") ∷ []) (read_read f.1) refl) (field_reads_read fs)

made_read : (fs : List (List ℕ × Read)) → AreRead (made_tokens fs)
made_read [] = refl
made_read (f ∷ fs) = field_reads_read (f ∷ fs)

as_ref_read : (as_ref : Bool) → AreRead (as_ref_part as_ref ++ Mark (codes "?") ∷ [])
as_ref_read true = refl
as_ref_read false = refl

expr_read : (e : TExpr) → AreRead (expr_tokens e)
expr_read (expr.Read r) = read_read r
expr_read (expr.Call borrow call) = both_read (borrow_part borrow) (call_tokens call.callee call.args) (borrow_read borrow) (call_read call.callee call.args)
expr_read (expr.Variant ty variant fields) = made_read fields
expr_read (expr.Struct ty fields) = made_read fields
expr_read (expr.Some r) = both_read (read_tokens r) (Mark (codes ")") ∷ []) (read_read r) refl
expr_read (expr.Try source as_ref) = both_read (operand_tokens source) (as_ref_part as_ref ++ Mark (codes "?") ∷ []) (operand_read source) (as_ref_read as_ref)
expr_read (expr.Tuple source part) = both_read (operand_tokens source) (Mark (codes ".") ∷ Word (numeral 10 part) ∷ []) (operand_read source) refl

head_read : (a b : Operand) → AreRead (if_eq_head a b)
head_read a b = both_read (operand_tokens a) _ (operand_read a) (both_read (operand_tokens b) (Mark (codes "{") ∷ []) (operand_read b) refl)

bind_read : (b : TBind) → AreRead (bind_tokens b)
bind_read b = both_read (ref_part b.by_ref) (local_token b.local ∷ Mark (codes ",") ∷ []) (ref_read b.by_ref) refl
  where
    ref_read : (by_ref : Bool) → AreRead (ref_part by_ref)
    ref_read true = refl
    ref_read false = refl

binds_read : (bs : List TBind) (more : Bool) → AreRead (binds_tokens bs more)
binds_read [] true = refl
binds_read [] false = refl
binds_read (b ∷ bs) more = both_read (bind_tokens b) (binds_tokens bs more) (bind_read b) (binds_read bs more)

braced_read : (bs : List TBind) (more : Bool) → AreRead (braced_tokens bs more)
braced_read [] false = refl
braced_read [] true = refl
braced_read (b ∷ bs) more = binds_read (b ∷ bs) more

pattern_read : (p : TPat) → AreRead (pattern_tokens p)
pattern_read (pattern.Const o) = operand_read o
pattern_read (pattern.Variant ty variant bs more) = braced_read bs more
pattern_read (pattern.Struct ty bs more) = braced_read bs more
pattern_read (pattern.Some None) = refl
pattern_read (pattern.Some (Some n)) = refl

let_head_read : (p : TPat) (r : Read) → AreRead (if_let_head p r)
let_head_read p r = both_read (pattern_tokens p) _ (pattern_read p) (both_read (read_tokens r) (Mark (codes "{") ∷ []) (read_read r) refl)

match_read : (r : Read) → AreRead (match_head r)
match_read r = both_read (read_tokens r) (Mark (codes "{") ∷ []) (read_read r) refl

arm_read : (p : TPat) → AreRead (arm_head p)
arm_read p = both_read (pattern_tokens p) (Mark (codes "=>") ∷ Mark (codes "{") ∷ []) (pattern_read p) refl

list_read : (c : Callee) → AreRead (list_tokens c)
list_read (callee.External name) = refl
list_read (callee.Internal term) = refl

filled_read : (n : ℕ) (c : Callee) (rs : List Read) → AreRead (let_list_tokens n (record { callee = c; args = rs }))
filled_read n c rs =
    let behind = args_tokens rs ++ list_end n in
    both_read (list_tokens c) (default_part ++ (callee_head c ++ behind)) (list_read c)
    (both_read default_part (callee_head c ++ behind) refl (both_read (callee_head c) behind (callee_read c) (both_read (args_tokens rs) (list_end n) (args_read rs) refl)))

log_read : (term place : List ℕ) → AreRead (log_tokens term place)
unfolding log_tokens
log_read term place = refl

loop_read : (list item : ℕ) → AreRead (loop_head list item)
unfolding loop_head
loop_read list item = refl

stop_read : (inside : Bool) → AreRead (stop_tokens inside)
stop_read true = refl
stop_read false = refl

split_end_read : (inside : Bool) → AreRead (split_end inside)
unfolding split_end
split_end_read inside = stop_read inside

split_read : (body : List Token) (inside : Bool) → AreRead body → AreRead (split_head ++ (body ++ split_end inside))
unfolding split_head
split_read body inside h = both_read body (split_end inside) h (split_end_read inside)

tail_read : (texts : Option (List ℕ × List ℕ)) → AreRead (tail_tokens texts)
tail_read None = refl
tail_read (Some texts) = refl

mutual
  stmt_read : (s : Stmt) → AreRead (stmt_tokens s)
  stmt_read (Let n e) = both_read (expr_tokens e) (Mark (codes ";") ∷ []) (expr_read e) refl
  stmt_read (LetList n call) = filled_read n call.callee call.args
  stmt_read (IfEq a b inside) = both_read (if_eq_head a b) (body_tokens inside ++ close) (head_read a b) (both_read (body_tokens inside) close (body_read inside) refl)
  stmt_read (IfLet p r inside) = both_read (if_let_head p r) (body_tokens inside ++ close) (let_head_read p r) (both_read (body_tokens inside) close (body_read inside) refl)
  stmt_read (Match r arms) = both_read (match_head r) (arms_tokens arms) (match_read r) (arms_read arms)
  stmt_read (Loop l i inside) = both_read (loop_head l i) (body_tokens inside ++ close) (loop_read l i) (both_read (body_tokens inside) close (body_read inside) refl)
  stmt_read (Return e) = both_read (expr_tokens e) (Mark (codes ";") ∷ []) (expr_read e) refl
  stmt_read (Extend r) = both_read (read_tokens r) _ (read_read r) refl
  stmt_read (Overflow inside limit) = stop_read inside
  stmt_read (Log t p) = log_read t p
  stmt_read (Split b inside) = split_read (body_tokens b) inside (body_read b)
  stmt_read (Tail texts) = tail_read texts

  body_read : (b : Body) → AreRead (body_tokens b)
  body_read Done = refl
  body_read (Then s ss) = both_read (stmt_tokens s) (body_tokens ss) (stmt_read s) (body_read ss)

  arms_read : (a : Arms) → AreRead (arms_tokens a)
  arms_read NoArm = refl
  arms_read (Arm p inside arms) =
      both_read (arm_head p) (body_tokens inside ++ (close ++ arms_tokens arms)) (arm_read p)
      (both_read (body_tokens inside) (close ++ arms_tokens arms) (body_read inside) (both_read close (arms_tokens arms) refl (arms_read arms)))

typed_read : (n : ℕ) (ty : Ty) → AreRead (typed_tokens n ty)
typed_read n ty = both_read (borrow_part ty.by_ref) (Word ty.name ∷ []) (borrow_read ty.by_ref) refl

params_read : (n : ℕ) (tys : List Ty) → AreRead (params_tokens n tys)
params_read n [] = refl
params_read n (ty ∷ tys) =
    both_read (param_tokens n ty) (params_tokens (n + 1) tys) (both_read (typed_tokens n ty) (Mark (codes ",") ∷ []) (typed_read n ty) refl) (params_read (n + 1) tys)

result_read : (how : ReturnKind) (ty : List ℕ) → AreRead (result_tokens how ty)
result_read kind.Plain ty = refl
result_read kind.Option ty = refl
result_read kind.Iterator ty = refl

function_read : (f : Function) → AreRead (function_tokens f)
unfolding function_tokens
function_read f =
    both_read (params_tokens 0 f.params) _ (params_read 0 f.params)
    (both_read (result_part f.kind f.result) _ (both_read (result_tokens f.kind f.result) (Mark (codes "{") ∷ []) (result_read f.kind f.result) refl)
    (both_read (body_tokens f.body) close (body_read f.body) refl))

functions_read : (fs : List Function) → AreRead (functions_tokens fs)
functions_read [] = refl
functions_read (f ∷ fs) = both_read (function_tokens f) (functions_tokens fs) (function_read f) (functions_read fs)

comma_read : (n : ℕ) → AreRead (comma n)
comma_read zero = refl
comma_read (suc n) = refl

joined_read : (n : ℕ) (tys : List Ty) → AreRead (joined_tokens n tys)
joined_read n [] = refl
joined_read n (ty ∷ tys) =
    both_read (comma n) (typed_tokens n ty ++ joined_tokens (n + 1) tys) (comma_read n) (both_read (typed_tokens n ty) (joined_tokens (n + 1) tys) (typed_read n ty) (joined_read (n + 1) tys))

joined_types_read : (n : ℕ) (tys : List (List ℕ)) → AreRead (joined_types n tys)
joined_types_read n [] = refl
joined_types_read n (ty ∷ tys) = both_read (comma n) (Word ty ∷ joined_types (n + 1) tys) (comma_read n) (joined_types_read (n + 1) tys)

item_read : (tys : List (List ℕ)) → AreRead (item_tokens tys)
item_read [] = refl
item_read (ty ∷ []) = refl
item_read (ty ∷ more ∷ tys) = joined_types_read 0 (ty ∷ more ∷ tys)

results_read : (how : ReturnKind) (tys : List (List ℕ)) → AreRead (results_tokens how tys)
results_read kind.Plain tys = item_read tys
results_read kind.Option tys = both_read (item_tokens tys) (Mark (codes ">") ∷ []) (item_read tys) refl
results_read kind.Iterator tys = refl

end_read : (how : ReturnKind) (name : List ℕ) (n : ℕ) → AreRead (joined_end how name n)
end_read kind.Plain name n = refl
end_read kind.Option name n = refl
end_read kind.Iterator name n = both_read (comma n) (returns_param name) (comma_read n) refl

list_type_read : (how : ReturnKind) (name : List ℕ) (tys : List (List ℕ)) → AreRead (list_type how name tys)
list_type_read kind.Plain name tys = refl
list_type_read kind.Option name tys = refl
list_type_read kind.Iterator name tys = both_read (item_tokens tys) (Mark (codes ">") ∷ Mark (codes ";") ∷ []) (item_read tys) refl

trait_fn_read : (f : TraitFn) → AreRead (trait_fn_tokens f)
unfolding trait_fn_tokens
trait_fn_read f =
    both_read (list_type f.kind f.name f.results) _ (list_type_read f.kind f.name f.results)
    (both_read (joined_tokens 0 f.params) _ (joined_read 0 f.params)
    (both_read (joined_end f.kind f.name (length f.params)) _ (end_read f.kind f.name (length f.params))
    (both_read (results_tokens f.kind f.results) (Mark (codes ";") ∷ []) (results_read f.kind f.results) refl)))

trait_fns_read : (fs : List TraitFn) → AreRead (trait_fns_tokens fs)
trait_fns_read [] = refl
trait_fns_read (f ∷ fs) = both_read (trait_fn_tokens f) (trait_fns_tokens fs) (trait_fn_read f) (trait_fns_read fs)

named_read : (public : Bool) (fs : List (List ℕ × List ℕ)) → AreRead (named_tokens public fs)
named_read public [] = refl
named_read true (f ∷ fs) = named_read true fs
named_read false (f ∷ fs) = named_read false fs

visible_read : (public : Bool) → AreRead (visible public)
visible_read true = refl
visible_read false = refl

places_read : (public : Bool) (n : ℕ) (tys : List (List ℕ)) → AreRead (places_tokens public n tys)
places_read public n [] = refl
places_read public n (ty ∷ tys) = both_read (comma n) _ (comma_read n) (both_read (visible public) _ (visible_read public) (places_read public (n + 1) tys))

fields_read : (public : Bool) (fs : TFields) → AreRead (fields_tokens public fs)
fields_read public shape.Unit = refl
fields_read public (shape.Named fs) = named_read public fs
fields_read public (shape.Tuple tys) = places_read public 0 tys

variants_read : (vs : List (List ℕ × TFields)) → AreRead (variants_tokens vs)
variants_read [] = refl
variants_read (v ∷ vs) =
    both_read (variant_tokens v) (variants_tokens vs) (both_read (fields_tokens false v.1) (Mark (codes ",") ∷ []) (fields_read false v.1) refl) (variants_read vs)

struct_end_read : (fs : TFields) → AreRead (struct_end fs)
struct_end_read shape.Unit = refl
struct_end_read (shape.Named fs) = refl
struct_end_read (shape.Tuple tys) = refl

type_body_read : (name : List ℕ) (body : TypeBody) → AreRead (type_body_tokens name body)
type_body_read name (type_body.Enum vs) = variants_read vs
type_body_read name (type_body.Struct fs) = both_read (fields_tokens true fs) (struct_end fs) (fields_read true fs) (struct_end_read fs)

derive_read : (plain debug : Bool) → AreRead (derive_tokens plain debug)
derive_read true true = refl
derive_read true false = refl
derive_read false true = refl
derive_read false false = refl

types_read : (ts : List TypeItem) → AreRead (types_tokens ts)
unfolding type_tokens
types_read [] = refl
types_read (t ∷ ts) =
    both_read (type_tokens t) (types_tokens ts)
    (both_read (derive_tokens (is_plain t.body) t.debug) (type_body_tokens t.name t.body) (derive_read (is_plain t.body) t.debug) (type_body_read t.name t.body)) (types_read ts)

allow_read : (allow : Bool) → AreRead (allow_part allow)
unfolding allow_tokens step begun
allow_read true = refl
allow_read false = refl

uses_read : AreRead uses_tokens
unfolding uses_tokens step begun
uses_read = refl

fixed_read : AreRead fixed_tokens
unfolding fixed_tokens step begun
fixed_read = refl

-- a program's tokens are all read
pub program_read : (p : Program) → AreRead (program_tokens p)
program_read p =
    both_read (allow_part p.allow) _ (allow_read p.allow)
    (both_read uses_tokens _ uses_read
    (both_read (trait_tokens p.trait_fns) _ (both_read (trait_fns_tokens p.trait_fns) close (trait_fns_read p.trait_fns) refl)
    (both_read fixed_tokens _ fixed_read
    (both_read (types_tokens p.types) _ (types_read p.types) (functions_read p.fns)))))
