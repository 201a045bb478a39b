-- Reading what stands for a value: an operand of one word or two, and how it is read.
use Rattle.std.specs.Prelude.{ℕ, zero, suc, ℤ, pos, negsuc, List, [], ◌∷◌, Bool, true, false, ◌==◌, ◌&&◌, ◌||◌, nat_le, Option, Some, None, codes, if◌then◌else◌}
use Rattle.std.specs.Ordering.{int_eq}
use Rattle.isle_core.specs.Int.{wrapped}
use Rattle.isle_core.specs.declared.types.IntType.{IntType}
use Rattle.isle_printer.specs.Token.{Token, Word, Mark}
use Rattle.isle_printer.specs.Bytes.{same_bytes}
use Rattle.isle_printer.specs.Number.{numeral_of}
use Rattle.isle_tree.specs.declared.tree.Operand.{Operand}
use Rattle.isle_tree.specs.declared.tree.Operand.TheVariants as operand
use Rattle.isle_tree.specs.declared.tree.Read.{Read}
use Rattle.isle_tree.specs.declared.tree.Read.TheVariants as read
use Rattle.isle_tree.specs.declared.tree.TExpr.{TExpr}
use Rattle.isle_tree.specs.declared.tree.TExpr.TheVariants as expr
use Rattle.isle_spelling.specs.Literal.{literal_of, signed_bits}
use Rattle.isle_spelling.specs.Names.{is_numbered}
use Rattle.isle_spelling.specs.Raw.{raw_of}
use Rattle.isle_target.specs.StatementSpelling.{clone_part, as_ref_part}
use Rattle.isle_target.specs.Tokens.{◌>>=◌, Reads, phrase, at, rest, after, any_word}

-- ---- words

-- what stands after the prefix
abbrev pub after_prefix : List ℕ → List ℕ → Option (List ℕ)
after_prefix [] w = Some w
after_prefix (p ∷ ps) [] = None
after_prefix (p ∷ ps) (b ∷ bs) = if p == b then after_prefix ps bs else None

-- the number after a prefix
abbrev pub numbered : List ℕ → List ℕ → Option ℕ
numbered prefix w = after_prefix prefix w >>= numeral_of 10

-- the first that is there
abbrev pub or_else : {A : Type 0} → Option A → Option A → Option A
or_else None o = o
or_else (Some x) o = Some x

-- a truth
abbrev pub truth_of : List ℕ → Option Bool
truth_of w = if same_bytes (codes "true") w then Some true else (if same_bytes (codes "false") w then Some false else None)

-- an operand by one of its readings
abbrev pub made : {A : Type 0} → (A → Operand) → Option A → Option Operand
made make o = o >>= (λ x. Some (make x))

-- a truth, or else a name
abbrev pub truth_or_name : Option Bool → List ℕ → Operand
truth_or_name (Some b) w = operand.Bool b
truth_or_name None w = operand.Name w

-- a local, a parameter, a truth, or else a name
abbrev pub named : List ℕ → Option Operand
named w =
    if is_numbered (codes "v") w then made operand.Local (numbered (codes "v") w)
    else (if is_numbered (codes "arg") w then made operand.Arg (numbered (codes "arg") w)
    else Some (truth_or_name (truth_of w) w))

-- whether a word begins as a number does
abbrev pub is_number : List ℕ → Bool
is_number [] = false
is_number (b ∷ bs) = nat_le 48 b && nat_le b 57

-- the integer, if the type has this number
abbrev pub number_at : IntType → ℤ → Option Operand
number_at ty n = let z = signed_bits ty n in if int_eq (wrapped ty z) n then Some (operand.Int ty z) else None

-- the integer of this type and magnitude
abbrev pub positive : IntType × ℕ → Option Operand
positive l = number_at l.0 (pos l.1)

-- the integer of this type and magnitude after a minus, which 0 has not
abbrev pub negative : IntType × ℕ → Option Operand
negative (ty, zero) = None
negative (ty, suc n) = number_at ty (negsuc n)

-- a number with its type, or else one of a primitive type
abbrev pub counted : List ℕ → Option Operand
counted w = or_else (literal_of w >>= positive) (made operand.Raw (raw_of w))

-- ---- what stands for a value

-- an operand of one word
abbrev pub read_word : List Token → Reads Operand
read_word ts = do
  w ← any_word ts
  o ← if is_number w.0 then counted w.0 else named w.0
  Some (o, w.1)

-- an integer, from after its minus on
abbrev pub read_negative : List Token → Reads Operand
read_negative ts = do
  w ← any_word ts
  l ← literal_of w.0
  o ← negative l
  Some (o, w.1)

-- an operand
unfoldable pub read_operand : List Token → Reads Operand
read_operand ts = if at (Mark (codes "-")) ts then read_negative (rest ts) else read_word ts

-- whether what stands after an operand goes on it
abbrev pub goes_on : List Token → Bool
goes_on ts = at (Mark (codes "?")) ts || at (Mark (codes ".")) ts

-- .clone() from after its . on
abbrev pub read_clone : Operand → List Token → Reads TExpr
read_clone o ts = do
  ts1 ← phrase (rest clone_part) ts
  Some (expr.Read (read.Clone o), ts1)

-- .as_ref()? from after its . on
abbrev pub read_as_ref : Operand → List Token → Reads TExpr
read_as_ref o ts = do
  ts1 ← phrase (rest (as_ref_part true)) ts
  ts2 ← after (Mark (codes "?")) ts1
  Some (expr.Try o true, ts2)

-- the number of a part of a tuple from after its . on
abbrev pub read_part : Operand → List Token → Reads TExpr
read_part o ts = do
  w ← any_word ts
  part ← numeral_of 10 w.0
  Some (expr.Tuple o part, w.1)

-- what stands after an operand's .
abbrev pub dotted : Operand → List Token → Reads TExpr
dotted o ts = if at (Word (codes "clone")) ts then read_clone o ts else (if at (Word (codes "as_ref")) ts then read_as_ref o ts else read_part o ts)

-- an operand with what goes on it: ?, .clone(), .as_ref()?, or nothing
abbrev pub suffixed : Operand → List Token → Reads TExpr
suffixed o ts =
    if at (Mark (codes "?")) ts then Some (expr.Try o false, rest ts)
    else (if at (Mark (codes ".")) ts then dotted o (rest ts) else Some (expr.Read (read.Plain o), ts))

-- an operand, and what goes on it
unfoldable pub read_suffixed : List Token → Reads TExpr
read_suffixed ts = do
  o ← read_operand ts
  suffixed o.0 o.1

-- an operand as it is read, and nothing else
abbrev pub only_read : TExpr → Option Read
only_read (expr.Read r) = Some r
only_read (expr.Call borrow call) = None
only_read (expr.Variant ty variant fields) = None
only_read (expr.Struct ty fields) = None
only_read (expr.Some r) = None
only_read (expr.Try source as_ref) = None
only_read (expr.Tuple o n) = None

-- an operand behind a &
abbrev pub read_borrowed : List Token → Reads Read
read_borrowed ts = do
  o ← read_operand ts
  Some (read.Borrow o.0, o.1)

-- an operand without one
abbrev pub read_owned : List Token → Reads Read
read_owned ts = do
  e ← read_suffixed ts
  r ← only_read e.0
  Some (r, e.1)

-- an operand as it is read
unfoldable pub read_read : List Token → Reads Read
read_read ts = if at (Mark (codes "&")) ts then read_borrowed (rest ts) else read_owned ts
