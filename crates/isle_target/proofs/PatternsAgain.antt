-- Patterns are read as what they were spelled from.
use Rattle.std.proofs.Common.{◌≡◌, ℕ, zero, suc, ◌<◌, List, [], ◌∷◌, ◌++◌, length, length-append, Bool, true, false, Some, None, refl, append_assoc, arith}
use Rattle.std.specs.Prelude.{codes}
use Rattle.isle_printer.specs.Token.{Token, Word, Mark}
use Rattle.isle_printer.proofs.Readback.{numeral_again}
use Rattle.isle_tree.specs.declared.tree.Operand.{Operand}
use Rattle.isle_tree.specs.declared.tree.Operand.TheVariants as operand
use Rattle.isle_tree.specs.declared.tree.TBind.{TBind}
use Rattle.isle_tree.specs.declared.tree.TPat.{TPat}
use Rattle.isle_tree.specs.declared.tree.TPat.TheVariants as pattern
use Rattle.isle_tree.specs.WellFormed.{IsOperand, IsConstant, IsPattern}
use Rattle.isle_target.specs.StatementSpelling.{local_token, ref_part, bind_tokens, more_part, binds_tokens, braced_tokens, pattern_tokens}
use Rattle.isle_target.specs.Tokens.{at}
use Rattle.isle_target.specs.PatternReading.{read_bound, read_binds, read_braced, read_pattern}
use Rattle.isle_target.proofs.Words.{operand_again, operand_no_mark, operand_no_rest}
use Rattle.isle_target.proofs.ReadsAgain.{operand_apart}

-- ---- fields

-- a local is read again, after ref or not
bound_again : (by_ref : Bool) (n : ℕ) (ts : List Token) → read_bound (ref_part by_ref ++ local_token n ∷ ts) ≡ Some ((by_ref, n), ts)
unfolding read_bound
bound_again true n ts = rw (numeral_again 10 n (omega arith) (omega arith)) refl
bound_again false n ts = rw (numeral_again 10 n (omega arith) (omega arith)) refl

-- fields are read again
binds_again : (k : ℕ) (bs : List TBind) (more : Bool) (ts : List Token) → length bs < k → read_binds k (binds_tokens bs more ++ ts) ≡ Some ((bs, more), ts)
unfolding read_binds
binds_again zero bs more ts lt = absurd (omega arith)
binds_again (suc k) [] true ts lt = refl
binds_again (suc k) [] false ts lt = refl
binds_again (suc k) (b ∷ bs) more ts lt =
    let behind = binds_tokens bs more ++ ts in
    let flat : ((ref_part b.by_ref ++ local_token b.local ∷ Mark (codes ",") ∷ []) ++ binds_tokens bs more) ++ ts ≡ ref_part b.by_ref ++ local_token b.local ∷ Mark (codes ",") ∷ behind = simp append_assoc in
    rw (flat, bound_again b.by_ref b.local (Mark (codes ",") ∷ behind), binds_again k bs more ts (omega arith)) refl

length-binds : (bs : List TBind) (more : Bool) → length bs < length (binds_tokens bs more)
length-binds [] more = omega (arith, length-append (more_part more) (Mark (codes "}") ∷ []))
length-binds (b ∷ bs) more = omega (arith, length-append (bind_tokens b) (binds_tokens bs more), length-binds bs more)

-- what stands between braces is read again, if no { stands after it
braced_again : (bs : List TBind) (more : Bool) (ts : List Token) → at (Mark (codes "{")) ts ≡ false → read_braced (braced_tokens bs more ++ ts) ≡ Some ((bs, more), ts)
unfolding read_braced
braced_again [] false ts e = rw e refl
braced_again [] true ts e =
    let inside = binds_tokens [] true ++ ts in
    let fuel : 0 < length inside = omega arith in
    rw (binds_again (length inside) [] true ts fuel) refl
braced_again (b ∷ bs) more ts e =
    let inside = binds_tokens (b ∷ bs) more ++ ts in
    let fuel : length (b ∷ bs) < length inside = omega (arith, length-append (binds_tokens (b ∷ bs) more) ts, length-binds (b ∷ bs) more) in
    rw (binds_again (length inside) (b ∷ bs) more ts fuel) refl

-- a struct's pattern has no :: after its name
braced_stop : (bs : List TBind) (more : Bool) (ts : List Token) → at (Mark (codes "::")) ts ≡ false → at (Mark (codes "::")) (braced_tokens bs more ++ ts) ≡ false
braced_stop [] false ts e = e
braced_stop [] true ts e = refl
braced_stop (b ∷ bs) more ts e = refl

-- ---- patterns

constant_is : (o : Operand) → IsConstant o → IsOperand o
constant_is (operand.Local n) h = absurd h
constant_is (operand.Arg n) h = absurd h
constant_is (operand.Bool b) h = h
constant_is (operand.Int ty z) h = h
constant_is (operand.Raw z) h = h
constant_is (operand.Name name) h = h

-- what may stand after a pattern
pub record EndsPattern (ts : List Token) : Type 0 where
  pub no_paren : at (Mark (codes "(")) ts ≡ false
  pub no_brace : at (Mark (codes "{")) ts ≡ false
  pub no_path : at (Mark (codes "::")) ts ≡ false

-- a pattern is read again, up to what may stand after it
pub pattern_again : (p : TPat) (ts : List Token) → IsPattern p → EndsPattern ts → read_pattern (pattern_tokens p ++ ts) ≡ Some (p, ts)
unfolding read_pattern
pattern_again (pattern.Const o) ts h e =
    rw (operand_no_mark (codes "&") o ts refl, operand_apart (codes "Some") (codes "(") o ts e.no_paren, operand_again o ts (constant_is o h)) refl
pattern_again (pattern.Variant ty variant bs more) ts h e = rw (braced_again bs more ts e.no_brace) refl
pattern_again (pattern.Struct ty bs more) ts h e = rw (braced_stop bs more ts e.no_path, braced_again bs more ts e.no_brace) refl
pattern_again (pattern.Some None) ts h e = refl
pattern_again (pattern.Some (Some n)) ts h e = rw (numeral_again 10 n (omega arith) (omega arith)) refl

-- no pattern begins with _
pub pattern_no_rest : (p : TPat) (ts : List Token) → IsPattern p → at (Word (codes "_")) (pattern_tokens p ++ ts) ≡ false
pattern_no_rest (pattern.Const o) ts h = operand_no_rest o ts (constant_is o h)
pattern_no_rest (pattern.Variant ty variant bs more) ts h = refl
pattern_no_rest (pattern.Struct ty bs more) ts h = refl
pattern_no_rest (pattern.Some local) ts h = refl
