-- What comes of reading a piece of written tables, by what comes next.
use Rattle.std.proofs.Common.{◌≡◌, ℕ, ◌+◌, ◌-◌, ◌<◌, List, [], ◌∷◌, ◌++◌, length, drop, map, Bool, true, false, cond, refl, ap, sym, ◌∙◌, Option, Some, None}
use Rattle.std.specs.Prelude.{is_some, if◌then◌else◌, codes}
use Rattle.isle_lexer.specs.Lexeme.{Lexeme, Open, Close, At, Less, Greater, Word}
use Rattle.isle_reading.specs.Combinators.{is_close, given, read_open, read_close, read_word, next_word, all, stays}
use Rattle.isle_reading.specs.Places.{first_place}
use Rattle.isle_reading.specs.Reader.{Reading, Got, Stuck, Reader, Ret, Peek, run, bind}
use Rattle.isle_reading.specs.declared.cursor.Fail.{Fail}
use Rattle.isle_reading.specs.declared.cursor.Fail.TheVariants as code
use Rattle.isle_reading.specs.Views.{opens, closes, stops, Refuses}
use Rattle.isle_reading.proofs.NameLaws.{if_some}
use Rattle.isle_reading.proofs.ListSteps.{in_front, all-more}
use Rattle.isle_reading.proofs.Steps.{open_peek, other_peek, peek_stops, close_peek, no_close_peek, close_got, then_got, done_got, word_none}
use Rattle.isle_tables.specs.Words.{is_symbol, symbol_of}
use Rattle.isle_tables.proofs.PieceLaws.{symbol_is}
use Rattle.isle_tables.specs.Reading.{more_operands, read_symbol, read_placed, read_one_of, read_values, read_imm, read_some_parts, read_parts, read_opnd, read_xop, read_some_alt, read_alt, read_shape, read_field_type, read_field}

-- ---- at the end of the text

pub symbol_none : run read_symbol [] ≡ Stuck []
unfolding read_symbol
symbol_none = word_none symbol_of

then_none : {B : Type 0} (k : ℕ → Reader B) → run (bind read_open k) [] ≡ Stuck []
unfolding read_open run bind
then_none k = refl

pub imm_none : (n : ℕ) → run (read_imm n) [] ≡ Stuck []
unfolding read_imm
imm_none n = then_none _

pub opnd_none : run read_opnd [] ≡ Stuck []
unfolding read_opnd
opnd_none = then_none _

pub xop_none : run read_xop [] ≡ Stuck []
unfolding read_xop
xop_none = then_none _

pub field_none : run read_field [] ≡ Stuck []
unfolding read_field
field_none = then_none _

-- ---- a list, or nothing, and the parenthesis after it

-- at the end of the text
end_stops : {A : Type 0} (a : A) (some : Reader A) (ts : List Lexeme) → length ts ≡ 0 → stops (run (Peek is_close (bind read_close (λ c. Ret a)) some) ts) ≡ Some (length ts)
end_stops a some ts e = peek_stops is_close (bind read_close (λ c. Ret a)) some ts e

-- where the parenthesis closes
closed_got : {A : Type 0} (a : A) (some : Reader A) (at : ℕ) (ts us : List Lexeme) → Some at ≡ closes ts → us ≡ drop 1 ts → run (Peek is_close (bind read_close (λ c. Ret a)) some) ts ≡ Got a us
closed_got a some at ts us e f = close_peek (bind read_close (λ c. Ret a)) some at ts e ∙ then_got read_close (λ c. Ret a) ts us at _ (close_got ts us at e f) (done_got a us)

-- if none does
some_there : {A : Type 0} (a : A) (some : Reader A) (ts : List Lexeme) → 0 < length ts → None ≡ closes ts → run (Peek is_close (bind read_close (λ c. Ret a)) some) ts ≡ run some ts
some_there a some ts l e = no_close_peek (bind read_close (λ c. Ret a)) some ts l e

pub values_end : (n : ℕ) (ts : List Lexeme) → length ts ≡ 0 → stops (run (read_values n) ts) ≡ Some (length ts)
unfolding read_values
values_end n ts e = end_stops None (read_one_of n) ts e

pub values_closed : (n at : ℕ) (ts us : List Lexeme) → Some at ≡ closes ts → us ≡ drop 1 ts → run (read_values n) ts ≡ Got None us
unfolding read_values
values_closed n at ts us e f = closed_got None (read_one_of n) at ts us e f

pub values_there : (n : ℕ) (ts : List Lexeme) → 0 < length ts → None ≡ closes ts → run (read_values n) ts ≡ run (read_one_of n) ts
unfolding read_values
values_there n ts l e = some_there None (read_one_of n) ts l e

pub parts_end : (n : ℕ) (ts : List Lexeme) → length ts ≡ 0 → stops (run (read_parts n) ts) ≡ Some (length ts)
unfolding read_parts
parts_end n ts e = end_stops (None, []) (read_some_parts n) ts e

pub parts_closed : (n at : ℕ) (ts us : List Lexeme) → Some at ≡ closes ts → us ≡ drop 1 ts → run (read_parts n) ts ≡ Got (None, []) us
unfolding read_parts
parts_closed n at ts us e f = closed_got (None, []) (read_some_parts n) at ts us e f

pub parts_there : (n : ℕ) (ts : List Lexeme) → 0 < length ts → None ≡ closes ts → run (read_parts n) ts ≡ run (read_some_parts n) ts
unfolding read_parts
parts_there n ts l e = some_there (None, []) (read_some_parts n) ts l e

pub alt_end : (ts : List Lexeme) → length ts ≡ 0 → stops (run read_alt ts) ≡ Some (length ts)
unfolding read_alt
alt_end ts e = end_stops None read_some_alt ts e

pub alt_closed : (at : ℕ) (ts us : List Lexeme) → Some at ≡ closes ts → us ≡ drop 1 ts → run read_alt ts ≡ Got None us
unfolding read_alt
alt_closed at ts us e f = closed_got None read_some_alt at ts us e f

pub alt_there : (ts : List Lexeme) → 0 < length ts → None ≡ closes ts → run read_alt ts ≡ run read_some_alt ts
unfolding read_alt
alt_there ts l e = some_there None read_some_alt ts l e

pub ruleset endings = (values_end, values_closed, values_there, parts_end, parts_closed, parts_there, alt_end, alt_closed, alt_there)

-- ---- a type

pub type_shaped : (at : ℕ) (ts : List Lexeme) → Some at ≡ opens ts → run read_field_type ts ≡ run read_shape ts
unfolding read_field_type
type_shaped at ts e = open_peek read_shape read_symbol at ts e

pub type_plain : (ts : List Lexeme) → None ≡ opens ts → run read_field_type ts ≡ run read_symbol ts
unfolding read_field_type
type_plain ts e = other_peek read_shape read_symbol ts symbol_none e

pub ruleset types = (type_shaped, type_plain)

-- ---- a symbol and its place

abbrev got_pair : List ℕ → ℕ → List Lexeme → Reading (List ℕ × ℕ)
got_pair w at us = Got (w, at) us

given_placed : (o : Option (List ℕ)) (v w : List ℕ) (n : ℕ) (ts us : List Lexeme) → ((x : List ℕ) → o ≡ Some x → x ≡ v) → cond (is_some o) (run (given o) ts) (Stuck (Word n v ∷ ts)) ≡ Got w us
    → cond {A = Reading (List ℕ × ℕ)} (is_some o) (Got (v, n) ts) (Stuck (Word n v ∷ ts)) ≡ Got (w, n) us
unfolding run
given_placed None v w n ts us same e = cc
given_placed (Some x) v w n ts us same e = let y : x ≡ w = cc in let z : ts ≡ us = cc in ap (λ (k : List ℕ). got_pair k n ts) (sym (same x refl) ∙ y) ∙ ap (got_pair w n) z

symbol_placed : (ts us : List Lexeme) (w : List ℕ) (at : ℕ) → run read_symbol ts ≡ Got w us → at ≡ first_place ts 0 → run read_placed ts ≡ Got (w, at) us
unfolding run read_symbol read_word read_placed
symbol_placed [] us w at e p = cc
symbol_placed (Open n ∷ ts) us w at e p = cc
symbol_placed (Close n ∷ ts) us w at e p = cc
symbol_placed (At n ∷ ts) us w at e p = cc
symbol_placed (Less n ∷ ts) us w at e p = cc
symbol_placed (Greater n ∷ ts) us w at e p = cc
symbol_placed (Word n v ∷ ts) us w at e p = given_placed (symbol_of v) v w n ts us (symbol_is v) e ∙ ap (λ (k : ℕ). got_pair w k us) (sym p)

-- the symbol's copy, and the place
pub placed_got : (ts us : List Lexeme) (w copy : List ℕ) (at : ℕ) → run read_symbol ts ≡ Got w us → copy ≡ w → at ≡ first_place ts 0 → run read_placed ts ≡ Got (copy, at) us
placed_got ts us w copy at e same p = symbol_placed ts us w at e p ∙ ap (λ (k : List ℕ). got_pair k at us) (sym same)

given_stops : (o : Option (List ℕ)) (v : List ℕ) (n : ℕ) (ts : List Lexeme) → stops (cond (is_some o) (run (given o) ts) (Stuck (Word n v ∷ ts))) ≡ stops {A = List ℕ × ℕ} (cond (is_some o) (Got (v, n) ts) (Stuck (Word n v ∷ ts)))
unfolding run
given_stops None v n ts = refl
given_stops (Some x) v n ts = refl

same_stops : (ts : List Lexeme) → stops (run read_symbol ts) ≡ stops (run read_placed ts)
unfolding run read_symbol read_word read_placed
same_stops [] = refl
same_stops (Open n ∷ ts) = refl
same_stops (Close n ∷ ts) = refl
same_stops (At n ∷ ts) = refl
same_stops (Less n ∷ ts) = refl
same_stops (Greater n ∷ ts) = refl
same_stops (Word n v ∷ ts) = given_stops (symbol_of v) v n ts

pub placed_refuses : (fail : Fail) (ts : List Lexeme) → Refuses fail (run read_symbol ts) → Refuses fail (run read_placed ts)
placed_refuses (code.At k) ts h = sym (same_stops ts) ∙ h
placed_refuses code.Memory ts h = tt

-- ---- one operand more

operand_some : (s v w u : List ℕ) → symbol_of v ≡ Some w → u ≡ s ++ codes ", " ++ w → more_operands s v ≡ Some u
unfolding symbol_of
operand_some s v w u e p =
    let x = if_some (is_symbol v) v w e in
    ap (λ b. if b then Some (s ++ codes ", " ++ v) else None) x.0 ∙ ap (λ z. Some (s ++ codes ", " ++ z)) (sym x.1) ∙ ap (λ z. Some z) (sym p)

none_test : (b : Bool) (v z : List ℕ) → (if b then Some v else None) ≡ None → (if b then Some z else None) ≡ None
none_test true v z e = cc
none_test false v z e = refl

operand_missing : (s v : List ℕ) → symbol_of v ≡ None → more_operands s v ≡ None
unfolding symbol_of
operand_missing s v e = none_test (is_symbol v) v (s ++ codes ", " ++ v) e

pub operand_next : (s w u : List ℕ) (ts : List Lexeme) → next_word symbol_of ts ≡ Some w → u ≡ s ++ codes ", " ++ w → next_word (more_operands s) ts ≡ Some u
operand_next s w u [] e p = cc
operand_next s w u (Open n ∷ ts) e p = cc
operand_next s w u (Close n ∷ ts) e p = cc
operand_next s w u (At n ∷ ts) e p = cc
operand_next s w u (Less n ∷ ts) e p = cc
operand_next s w u (Greater n ∷ ts) e p = cc
operand_next s w u (Word n v ∷ ts) e p = operand_some s v w u e p

pub operand_none : (s : List ℕ) (ts : List Lexeme) → next_word symbol_of ts ≡ None → next_word (more_operands s) ts ≡ None
operand_none s [] e = refl
operand_none s (Open n ∷ ts) e = refl
operand_none s (Close n ∷ ts) e = refl
operand_none s (At n ∷ ts) e = refl
operand_none s (Less n ∷ ts) e = refl
operand_none s (Greater n ∷ ts) e = refl
operand_none s (Word n v ∷ ts) e = operand_missing s v e

-- ---- up to the end of the text

map_same : {A : Type 0} (xs : List A) → map (λ x. x) xs ≡ xs
map_same [] = refl
map_same (x ∷ xs) = ap (λ zs. x ∷ zs) (map_same xs)

-- a value more, which is seen as it is
pub all-next : {A : Type 0} (r : Reader A) (m i : ℕ) (ts us : List Lexeme) (xs ys : List A) (x : A) (whole : Reading (List A)) → i < m → 0 < length ts → run r ts ≡ Got x us → ys ≡ xs ++ x ∷ []
    → in_front xs (run (all (m - i) r) ts) ≡ whole → in_front ys (run (all (m - (i + 1)) r) us) ≡ whole
all-next r m i ts us xs ys x whole l some f p h =
    ap (λ zs. in_front zs (run (all (m - (i + 1)) r) us)) (sym (map_same ys))
    ∙ all-more (λ z. z) (λ s. r) stays tt tt m i ts us xs ys x whole l some f p refl (ap (λ zs. in_front zs (run (all (m - i) r) ts)) (map_same xs) ∙ h)
