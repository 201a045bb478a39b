-- What is computed is read as what it was spelled from.
use Rattle.std.proofs.Common.{◌≡◌, ℕ, zero, suc, ◌<◌, List, [], ◌∷◌, ◌++◌, length, length-append, Bool, true, false, Some, None, refl, append_assoc, arith}
use Rattle.std.specs.Prelude.{codes, ℤ, pos, negsuc, if◌then◌else◌}
use Rattle.std.specs.List.{AllByRecursion}
use Rattle.isle_printer.specs.Token.{Token, Word, Mark}
use Rattle.isle_printer.specs.Number.{numeral}
use Rattle.isle_core.specs.Int.{wrapped}
use Rattle.isle_core.specs.declared.types.IntType.{IntType}
use Rattle.isle_core.specs.declared.values.Callee.{Callee}
use Rattle.isle_core.specs.declared.values.Callee.TheVariants as callee
use Rattle.isle_tree.specs.declared.tree.Operand.{Operand}
use Rattle.isle_tree.specs.declared.tree.Operand.TheVariants as operand
use Rattle.isle_tree.specs.declared.tree.Read.{Read}
use Rattle.isle_tree.specs.declared.tree.Read.TheVariants as read
use Rattle.isle_tree.specs.declared.tree.TExpr.{TExpr}
use Rattle.isle_tree.specs.declared.tree.TExpr.TheVariants as expr
use Rattle.isle_tree.specs.WellFormed.{IsOperand, IsRead, IsFieldRead, IsCallee, IsExpr}
use Rattle.isle_spelling.specs.Literal.{literal_tokens}
use Rattle.isle_target.specs.StatementSpelling.{operand_tokens, clone_part, read_tokens, borrow_part, constructor_word, args_tokens, call_tokens, field_read_tokens, field_reads_tokens, made_tokens, as_ref_part, expr_tokens}
use Rattle.isle_target.specs.Tokens.{◌>>=◌, Reads, phrase, at}
use Rattle.isle_target.specs.OperandReading.{goes_on, read_suffixed}
use Rattle.isle_target.specs.ExprReading.{read_args, called_name, called_term_fn, called, read_call, read_field_reads, read_made_fields, read_expr}
use Rattle.isle_target.proofs.Words.{operand_again, operand_no_mark, operand_second}
use Rattle.isle_target.proofs.ReadsAgain.{second_apart, operand_apart, bare_again, tried_again, cloned_again, part_again, read_again}

-- ---- calls

-- what closes arguments: no argument stands where it does, and nothing goes on the one before it
pub record Closes (end : List Token) : Type 0 where
  pub found : (ts : List Token) → phrase end (end ++ ts) ≡ Some ts
  pub apart : (r : Read) (ts : List Token) → IsRead r → phrase end (Mark (codes ",") ∷ (read_tokens r ++ ts)) ≡ None
  pub stops : (ts : List Token) → goes_on (end ++ ts) ≡ false

-- nothing goes on an argument
args_stop : (rs : List Read) (ts : List Token) → goes_on ts ≡ false → goes_on (args_tokens rs ++ ts) ≡ false
args_stop [] ts e = e
args_stop (r ∷ rs) ts e = refl

-- the arguments of a call are read again, up to what closes them
pub args_again : (end : List Token) (n : ℕ) (rs : List Read) (ts : List Token) → Closes end → AllByRecursion IsRead rs → length (args_tokens rs) < n
    → read_args end n (args_tokens rs ++ (end ++ ts)) ≡ Some (rs, ts)
unfolding read_args
args_again end zero rs ts c h lt = absurd (omega arith)
args_again end (suc n) [] ts c h lt = rw (c.found ts) refl
args_again end (suc n) (r ∷ rs) ts c h lt =
    let more = args_tokens rs ++ (end ++ ts) in
    let l = length-append (read_tokens r) (args_tokens rs) in
    rw (append_assoc (read_tokens r) (args_tokens rs) (end ++ ts), c.apart r more h.0, read_again r more h.0 (args_stop rs (end ++ ts) (c.stops ts)), args_again end n rs ts c h.1 (omega (arith, l))) refl

-- a ) closes them
paren_closes : Closes (Mark (codes ")") ∷ [])
paren_closes = record { found = λ ts. refl; apart = λ r ts h. refl; stops = λ ts. refl }

-- a call from after its ( on
behind_again : (borrow : Bool) (to : Callee) (rs : List Read) (ts : List Token) → AllByRecursion IsRead rs
    → read_call borrow to (Word (codes "ctx") ∷ ((args_tokens rs ++ Mark (codes ")") ∷ []) ++ ts)) ≡ Some (expr.Call borrow (record { callee = to; args = rs }), ts)
behind_again borrow to rs ts h =
    let inside = args_tokens rs ++ Mark (codes ")") ∷ ts in
    let long : length (args_tokens rs) < length inside = omega (arith, length-append (args_tokens rs) (Mark (codes ")") ∷ ts)) in
    rw (append_assoc (args_tokens rs) (Mark (codes ")") ∷ []) ts, args_again (Mark (codes ")") ∷ []) (length inside) rs ts paren_closes h long) refl

-- a call is read again, behind a & or not
call_again : (borrow : Bool) (to : Callee) (rs : List Read) (ts : List Token) → IsCallee to → AllByRecursion IsRead rs
    → read_expr (borrow_part borrow ++ (call_tokens to rs ++ ts)) ≡ Some (expr.Call borrow (record { callee = to; args = rs }), ts)
unfolding read_expr constructor_word
call_again true (callee.External name) rs ts k h = behind_again true (callee.External name) rs ts h
call_again false (callee.External name) rs ts k h = behind_again false (callee.External name) rs ts h
call_again true (callee.Internal term) rs ts k h = behind_again true (callee.Internal term) rs ts h
call_again false (callee.Internal term) rs ts k h = behind_again false (callee.Internal term) rs ts h

literal_no_call : (ty : IntType) (n : ℤ) (ts : List Token) → at (Mark (codes "(")) ts ≡ false → called_term_fn (literal_tokens ty n ++ ts) ≡ None
literal_no_call ty (pos n) ts e = rw e refl
literal_no_call ty (negsuc n) ts e = refl

-- an operand is no call of a term's function, if no ( stands after it
operand_no_call : (o : Operand) (ts : List Token) → at (Mark (codes "(")) ts ≡ false → called_term_fn (operand_tokens o ++ ts) ≡ None
operand_no_call (operand.Local n) ts e = rw e refl
operand_no_call (operand.Arg n) ts e = rw e refl
operand_no_call (operand.Bool true) ts e = rw e refl
operand_no_call (operand.Bool false) ts e = rw e refl
operand_no_call (operand.Int ty z) ts e = literal_no_call ty (wrapped ty z) ts e
operand_no_call (operand.Raw z) ts e = rw e refl
operand_no_call (operand.Name name) ts e = rw e refl

-- ---- made values

-- fields are read again
fields_again : (k : ℕ) (fs : List (List ℕ × Read)) (ts : List Token) → AllByRecursion IsFieldRead fs → length fs < k → read_field_reads k (field_reads_tokens fs ++ ts) ≡ Some (fs, ts)
unfolding read_field_reads
fields_again zero fs ts h lt = absurd (omega arith)
fields_again (suc k) [] ts h lt = refl
fields_again (suc k) (f ∷ fs) ts h lt =
    let more = field_reads_tokens fs ++ ts in
    let flat : ((read_tokens f.1 ++ Mark (codes ",") ∷ []) ++ field_reads_tokens fs) ++ ts ≡ read_tokens f.1 ++ Mark (codes ",") ∷ more = simp append_assoc in
    rw (flat, read_again f.1 (Mark (codes ",") ∷ more) h.0.1 refl, fields_again k fs ts h.1 (omega arith)) refl

length-fields : (fs : List (List ℕ × Read)) → length fs < length (field_reads_tokens fs)
length-fields [] = omega arith
length-fields (f ∷ fs) = omega (arith, length-append (field_read_tokens f) (field_reads_tokens fs), length-fields fs)

-- the braces of a made value, if no { stands after it
made_again : (fs : List (List ℕ × Read)) (ts : List Token) → AllByRecursion IsFieldRead fs → at (Mark (codes "{")) ts ≡ false → read_made_fields (made_tokens fs ++ ts) ≡ Some (fs, ts)
unfolding read_made_fields
made_again [] ts h e = rw e refl
made_again (f ∷ fs) ts h e =
    let inside = field_reads_tokens (f ∷ fs) ++ ts in
    let fuel : length (f ∷ fs) < length inside = omega (arith, length-append (field_reads_tokens (f ∷ fs)) ts, length-fields (f ∷ fs)) in
    rw (fields_again (length inside) (f ∷ fs) ts h fuel) refl

-- the function of the trait that is called after C::
abbrev called_behind : List Token → Reads Callee
called_behind ts = called_name ts >>= (λ name. Some (callee.External name.0, name.1))

-- a variant is no call, if no ( stands after it
variant_no_call : (ty variant : List ℕ) (ts : List Token) → at (Mark (codes "(")) ts ≡ false → called (Word ty ∷ Mark (codes "::") ∷ Word variant ∷ ts) ≡ None
variant_no_call ty variant ts e = one _
  where
    one : (b : Bool) → ((if b then Some (Word variant ∷ ts) else None) >>= called_behind) ≡ None
    one true = rw e refl
    one false = refl

-- no ( stands after a made value
made_stop : (fs : List (List ℕ × Read)) (ts : List Token) → at (Mark (codes "(")) ts ≡ false → at (Mark (codes "(")) (made_tokens fs ++ ts) ≡ false
made_stop [] ts e = e
made_stop (f ∷ fs) ts e = refl

-- ---- what is computed

-- an operand with a suffix is read as that
suffixed_again : (o : Operand) (ts : List Token) → at (Mark (codes "(")) ts ≡ false → at (Mark (codes "::")) ts ≡ false → at (Mark (codes "{")) ts ≡ false
    → read_expr (operand_tokens o ++ ts) ≡ read_suffixed (operand_tokens o ++ ts)
unfolding read_expr
suffixed_again o ts e f g =
    rw (operand_no_mark (codes "&") o ts refl, operand_apart (codes "Some") (codes "(") o ts e, operand_second (codes "::") o ts f, operand_no_call o ts e, operand_second (codes "::") o ts f, operand_second (codes "{") o ts g) refl

-- an operand behind a &
borrowed_again : (o : Operand) (ts : List Token) → IsOperand o → at (Mark (codes "(")) ts ≡ false → at (Mark (codes "::")) ts ≡ false → read_expr (Mark (codes "&") ∷ (operand_tokens o ++ ts)) ≡ Some (expr.Read (read.Borrow o), ts)
unfolding read_expr
borrowed_again o ts h e f = rw (operand_second (codes "::") o ts f, operand_no_call o ts e, operand_again o ts h) refl

-- a value that a variant makes
variant_again : (ty variant : List ℕ) (fs : List (List ℕ × Read)) (ts : List Token) → AllByRecursion IsFieldRead fs
    → read_expr (Word ty ∷ Mark (codes "::") ∷ Word variant ∷ (made_tokens fs ++ Mark (codes ";") ∷ ts)) ≡ Some (expr.Variant ty variant fs, Mark (codes ";") ∷ ts)
unfolding read_expr
variant_again ty variant fs ts h =
    let behind = made_tokens fs ++ Mark (codes ";") ∷ ts in
    rw (second_apart (Word (codes "Some")) (Mark (codes "(")) (Word ty) (Mark (codes "::") ∷ Word variant ∷ behind) refl, variant_no_call ty variant behind (made_stop fs (Mark (codes ";") ∷ ts) refl), made_again fs (Mark (codes ";") ∷ ts) h refl) refl

-- one that a struct makes
struct_again : (ty : List ℕ) (f : List ℕ × Read) (fs : List (List ℕ × Read)) (ts : List Token) → AllByRecursion IsFieldRead (f ∷ fs)
    → read_expr (Word ty ∷ (made_tokens (f ∷ fs) ++ Mark (codes ";") ∷ ts)) ≡ Some (expr.Struct ty (f ∷ fs), Mark (codes ";") ∷ ts)
unfolding read_expr
struct_again ty f fs ts h =
    let behind = made_tokens (f ∷ fs) ++ Mark (codes ";") ∷ ts in
    rw (second_apart (Word (codes "Some")) (Mark (codes "(")) (Word ty) behind refl, made_again (f ∷ fs) (Mark (codes ";") ∷ ts) h refl) refl

-- an option of what is read
some_again : (r : Read) (ts : List Token) → IsRead r → read_expr (expr_tokens (expr.Some r) ++ ts) ≡ Some (expr.Some r, ts)
unfolding read_expr
some_again r ts h = rw (append_assoc (read_tokens r) (Mark (codes ")") ∷ []) ts, read_again r (Mark (codes ")") ∷ ts) h refl) refl

-- what stands within an option
within_again : (o : Operand) (as_ref : Bool) (ts : List Token) → IsOperand o → read_expr (operand_tokens o ++ (as_ref_part as_ref ++ Mark (codes "?") ∷ ts)) ≡ Some (expr.Try o as_ref, ts)
within_again o true ts h = rw (suffixed_again o (as_ref_part true ++ Mark (codes "?") ∷ ts) refl refl refl) (tried_again o true ts h)
within_again o false ts h = rw (suffixed_again o (Mark (codes "?") ∷ ts) refl refl refl) (tried_again o false ts h)

-- what is computed is read again, up to the ; after it
pub expr_again : (e : TExpr) (ts : List Token) → IsExpr e → read_expr (expr_tokens e ++ Mark (codes ";") ∷ ts) ≡ Some (e, Mark (codes ";") ∷ ts)
expr_again (expr.Read (read.Plain o)) ts h =
    let after = Mark (codes ";") ∷ ts in
    rw (suffixed_again o after refl refl refl) (bare_again o after h refl)
expr_again (expr.Read (read.Borrow o)) ts h = borrowed_again o (Mark (codes ";") ∷ ts) h refl refl
expr_again (expr.Read (read.Clone o)) ts h =
    let after = Mark (codes ";") ∷ ts in
    rw (append_assoc (operand_tokens o) clone_part after, suffixed_again o (clone_part ++ after) refl refl refl) (cloned_again o after h)
expr_again (expr.Call borrow call) ts h =
    let after = Mark (codes ";") ∷ ts in
    rw (append_assoc (borrow_part borrow) (call_tokens call.callee call.args) after) (call_again borrow call.callee call.args after h.callee h.args)
expr_again (expr.Some r) ts h = some_again r (Mark (codes ";") ∷ ts) h
expr_again (expr.Try o as_ref) ts h =
    let after = Mark (codes ";") ∷ ts in
    let flat : (operand_tokens o ++ (as_ref_part as_ref ++ Mark (codes "?") ∷ [])) ++ after ≡ operand_tokens o ++ (as_ref_part as_ref ++ Mark (codes "?") ∷ after) = simp append_assoc in
    rw flat (within_again o as_ref after h)
expr_again (expr.Variant ty variant fs) ts h = variant_again ty variant fs ts h.2
expr_again (expr.Struct ty []) ts h = absurd (omega (arith, h.1))
expr_again (expr.Struct ty (f ∷ fs)) ts h = struct_again ty f fs ts h.2
expr_again (expr.Tuple o part) ts h =
    let after = Mark (codes ";") ∷ ts in
    let behind = Mark (codes ".") ∷ Word (numeral 10 part) ∷ after in
    rw (append_assoc (operand_tokens o) (Mark (codes ".") ∷ Word (numeral 10 part) ∷ []) after, suffixed_again o behind refl refl refl) (part_again o part after h)
