-- Operands are read as what they were spelled from, with what goes on them.
use Rattle.std.proofs.Common.{◌≡◌, ℕ, List, [], ◌∷◌, ◌++◌, Bool, true, false, Some, None, refl, append_assoc, arith}
use Rattle.std.specs.Prelude.{codes, ℤ, pos, negsuc, ◌||◌, if◌then◌else◌}
use Rattle.isle_core.specs.Int.{wrapped}
use Rattle.isle_core.specs.declared.types.IntType.{IntType}
use Rattle.isle_printer.specs.Token.{Token, Word, Mark}
use Rattle.isle_printer.specs.Number.{numeral}
use Rattle.isle_printer.proofs.Readback.{numeral_again}
use Rattle.isle_tree.specs.declared.tree.Operand.{Operand}
use Rattle.isle_tree.specs.declared.tree.Operand.TheVariants as operand
use Rattle.isle_tree.specs.declared.tree.Read.{Read}
use Rattle.isle_tree.specs.declared.tree.Read.TheVariants as read
use Rattle.isle_tree.specs.declared.tree.TExpr.TheVariants as expr
use Rattle.isle_tree.specs.WellFormed.{IsOperand, IsRead}
use Rattle.isle_spelling.specs.Literal.{literal_tokens, literal_word}
use Rattle.isle_spelling.specs.Raw.{raw_word}
use Rattle.isle_target.specs.StatementSpelling.{local_token, param_token, truth_token, operand_tokens, clone_part, as_ref_part, read_tokens}
use Rattle.isle_target.specs.Tokens.{same_token, phrase, at, rest}
use Rattle.isle_target.specs.OperandReading.{is_number, goes_on, dotted, read_suffixed, read_read}
use Rattle.isle_target.proofs.Words.{numeral_number, apart_by, operand_again, operand_no_mark}

-- tokens stand nowhere that the first is another
pub first_apart : (p : Token) (ps ts : List Token) → at p ts ≡ false → phrase (p ∷ ps) ts ≡ None
first_apart p ps [] e = refl
first_apart p ps (t ∷ ts) e = rw e refl

-- two tokens stand nowhere that the second is another
pub second_apart : (p q t : Token) (ts : List Token) → at q ts ≡ false → phrase (p ∷ q ∷ []) (t ∷ ts) ≡ None
second_apart p q t ts e = one (same_token p t)
  where
    one : (b : Bool) → (if b then phrase (q ∷ []) ts else None) ≡ None
    one true = first_apart q [] ts e
    one false = refl

literal_apart : (w m : List ℕ) (ty : IntType) (n : ℤ) (ts : List Token) → at (Mark m) ts ≡ false → phrase (Word w ∷ Mark m ∷ []) (literal_tokens ty n ++ ts) ≡ None
literal_apart w m ty (pos n) ts e = second_apart (Word w) (Mark m) (Word (literal_word ty n)) ts e
literal_apart w m ty (negsuc n) ts e = refl

-- a form that is told by a word and a mark begins at no operand that the mark isn't after
pub operand_apart : (w m : List ℕ) (o : Operand) (ts : List Token) → at (Mark m) ts ≡ false → phrase (Word w ∷ Mark m ∷ []) (operand_tokens o ++ ts) ≡ None
operand_apart w m (operand.Local n) ts e = second_apart (Word w) (Mark m) (local_token n) ts e
operand_apart w m (operand.Arg n) ts e = second_apart (Word w) (Mark m) (param_token n) ts e
operand_apart w m (operand.Bool b) ts e = second_apart (Word w) (Mark m) (truth_token b) ts e
operand_apart w m (operand.Int ty z) ts e = literal_apart w m ty (wrapped ty z) ts e
operand_apart w m (operand.Raw z) ts e = second_apart (Word w) (Mark m) (Word (raw_word z)) ts e
operand_apart w m (operand.Name name) ts e = second_apart (Word w) (Mark m) (Word name) ts e

stays : {A : Type 0} (tried more : Bool) (x y z : A) → (tried || more) ≡ false → (if tried then x else (if more then y else z)) ≡ z
stays true more x y z e = absurd cc
stays false true x y z e = absurd cc
stays false false x y z e = refl

-- an operand that nothing goes on is read again
pub bare_again : (o : Operand) (ts : List Token) → IsOperand o → goes_on ts ≡ false → read_suffixed (operand_tokens o ++ ts) ≡ Some (expr.Read (read.Plain o), ts)
unfolding read_suffixed
bare_again o ts h e =
    rw (operand_again o ts h) (stays (at (Mark (codes "?")) ts) (at (Mark (codes ".")) ts) (Some (expr.Try o false, rest ts)) (dotted o (rest ts)) (Some (expr.Read (read.Plain o), ts)) e)

-- and with a ? after it, with .as_ref() before that or not
pub tried_again : (o : Operand) (as_ref : Bool) (ts : List Token) → IsOperand o → read_suffixed (operand_tokens o ++ (as_ref_part as_ref ++ Mark (codes "?") ∷ ts)) ≡ Some (expr.Try o as_ref, ts)
unfolding read_suffixed
tried_again o true ts h = rw (operand_again o (as_ref_part true ++ Mark (codes "?") ∷ ts) h) refl
tried_again o false ts h = rw (operand_again o (Mark (codes "?") ∷ ts) h) refl

-- and with .clone() after it
pub cloned_again : (o : Operand) (ts : List Token) → IsOperand o → read_suffixed (operand_tokens o ++ (clone_part ++ ts)) ≡ Some (expr.Read (read.Clone o), ts)
unfolding read_suffixed
cloned_again o ts h = rw (operand_again o (clone_part ++ ts) h) refl

-- and with the number of a part after it
pub part_again : (o : Operand) (part : ℕ) (ts : List Token) → IsOperand o → read_suffixed (operand_tokens o ++ Mark (codes ".") ∷ Word (numeral 10 part) ∷ ts) ≡ Some (expr.Tuple o part, ts)
unfolding read_suffixed
part_again o part ts h =
    let apart = λ (w : List ℕ) (e : is_number w ≡ false). apart_by is_number w (numeral 10 part) e (numeral_number part) in
    rw (operand_again o (Mark (codes ".") ∷ Word (numeral 10 part) ∷ ts) h, apart (codes "clone") refl, apart (codes "as_ref") refl, numeral_again 10 part (omega arith) (omega arith)) refl

-- what is read is read again, if nothing goes on it
pub read_again : (r : Read) (ts : List Token) → IsRead r → goes_on ts ≡ false → read_read (read_tokens r ++ ts) ≡ Some (r, ts)
unfolding read_read
read_again (read.Plain o) ts h e = rw (operand_no_mark (codes "&") o ts refl, bare_again o ts h e) refl
read_again (read.Borrow o) ts h e = rw (operand_again o ts h) refl
read_again (read.Clone o) ts h e =
    rw (append_assoc (operand_tokens o) clone_part ts, operand_no_mark (codes "&") o (clone_part ++ ts) refl, cloned_again o ts h) refl
