-- The readers of the interpreter's operations keep the law.
use Rattle.std.proofs.Common.{◌≡◌, ℕ, List, ◌∷◌, ◌++◌, append_assoc, Bool, true, false, inl, inr, refl, ap, sym, ◌∙◌, subst, arith, Some, None}
use Rattle.std.specs.Prelude.{if◌then◌else◌, bytes_eq, codes}
use Rattle.std.proofs.lemmas.Slice.Eq.{bytes_eq-Decides}
use Rattle.isle_lexer.specs.Lexeme.{Lexeme, Open, Close, Word}
use Rattle.isle_reading.specs.Combinators.{is_open, is_close}
use Rattle.isle_reading.specs.Relations.{Many, WordsFrom, no_word, a_word}
use Rattle.isle_reading.proofs.Law.{Heads, Nothing, Then, Either, law_map, law_next, law_then}
use Rattle.isle_reading.proofs.TokenLaws.{OpenS, CloseS, Gives, law_ret, law_peek, law_words_from}
use Rattle.isle_reading.proofs.ListLaws.{law_many}
use Rattle.isle_reading.proofs.NameLaws.{if_some}
use Rattle.isle_reading.proofs.States.{Opened, opened_close, opened_word}
use Rattle.isle_meta.specs.declared.pulley.PulleyInst.{PulleyInst}
use Rattle.isle_tables.specs.Words.{is_symbol, symbol_of}
use Rattle.isle_tables.specs.Pieces.{Opens, Closes, Key, Says, Symbol}
use Rattle.isle_tables.specs.Grammar.{FieldTypeS, plain, binary_one, binary_two, binary_three, upper, FieldS, field, OpS, op}
use Rattle.isle_tables.specs.Reading.{more_operands, shape_of, read_first, read_binary, read_shape_head, read_shape_after, read_shape, read_field_type, read_field, read_op}
use Rattle.isle_tables.proofs.PieceLaws.{few, Keeps, ended, opens, closes, says, symbol_is, law_symbol}

-- ---- the operands of a binary operation

-- the operands' text, if the operands in front are there
abbrev front_of : List ℕ → List ℕ
front_of a = codes "BinaryOperands < " ++ a

-- with one operand more
abbrev with_operand : List ℕ → List ℕ → List ℕ
with_operand text w = text ++ codes ", " ++ w

symbol_same : (w : List ℕ) → is_symbol w ≡ true → symbol_of w ≡ Some w
unfolding symbol_of
symbol_same w e = ap (λ b. if b then Some w else None) e

symbol_true : (w : List ℕ) → symbol_of w ≡ Some w → is_symbol w ≡ true
unfolding symbol_of
symbol_true w e = (if_some (is_symbol w) w w e).0

operand_tested : (s u w : List ℕ) → more_operands s w ≡ Some u → is_symbol w ≡ true
operand_tested s u w e = (if_some (is_symbol w) (with_operand s w) u e).0

abbrev BinaryShape : List ℕ → List Lexeme → List Lexeme → Type 0
BinaryShape = Then (Then Symbol (λ a. Nothing (front_of a))) (λ text. Then (WordsFrom more_operands 2 text) (λ all. Then CloseS (λ c. Nothing (all ++ codes " >"))))

law_binary : (n : ℕ) → Keeps 3 2 n BinaryShape read_binary
unfolding read_binary read_first
law_binary n =
    law_next _ _ (law_next _ _ (law_symbol 3 n (omega arith)) (λ a. law_ret (front_of a) (λ q p. p))) (λ text.
    law_then _ _ (λ all b ts rest s d. (Close s.0, s.1, s.2, refl)) (law_words_from more_operands is_symbol operand_tested (λ s. opened_word 3 (more_operands s) (omega (arith, few))) 2 text) (λ all.
    law_next _ _ (closes 2 n (omega arith)) (λ c.
    law_ret (all ++ codes " >") (λ q p. p))))

-- ---- types

-- what the first word of a type in parentheses says
abbrev IsShape : Bool → List ℕ → Type 0
IsShape true w = w ≡ codes "binary"
IsShape false w = w ≡ codes "upper"

shape_is : (w : List ℕ) (b : Bool) → shape_of w ≡ Some b → IsShape b w
shape_is w b e = by (bytes_eq w (codes "binary")) (bytes_eq w (codes "upper")) refl refl e
  where
    by : (x y : Bool) → bytes_eq w (codes "binary") ≡ x → bytes_eq w (codes "upper") ≡ y → (if x then Some true else (if y then Some false else None)) ≡ Some b → IsShape b w
    by true y f g e = subst (λ z. IsShape z w) (let x : true ≡ b = cc in x) ((bytes_eq-Decides w (codes "binary")).0 f)
    by false true f g e = subst (λ z. IsShape z w) (let x : false ≡ b = cc in x) ((bytes_eq-Decides w (codes "upper")).0 g)
    by false false f g e = cc

a_shape : Gives shape_of
a_shape = (codes "upper", false, refl)

abbrev ShapeAfter : Bool → List ℕ → List Lexeme → List Lexeme → Type 0
ShapeAfter true = BinaryShape
ShapeAfter false = Then CloseS (λ c. Nothing (codes "UpperRegSet < XReg >"))

law_shape_after : (n : ℕ) (b : Bool) → Keeps 3 2 n (ShapeAfter b) (read_shape_after b)
unfolding read_shape_after
law_shape_after n true = law_binary n
law_shape_after n false = law_next _ _ (closes 2 n (omega arith)) (λ c. law_ret (codes "UpperRegSet < XReg >") (λ q p. p))

abbrev InShape : List ℕ → List Lexeme → List Lexeme → Type 0
InShape = Then OpenS (λ o. Then (Says shape_of) (λ h. ShapeAfter h))

law_shape : (n : ℕ) → Keeps 2 2 n InShape read_shape
unfolding read_shape read_shape_head
law_shape n =
    law_next _ _ (opens 2 n (omega arith)) (λ o.
    law_next _ _ (says 3 n shape_of a_shape (omega arith)) (λ h.
    law_shape_after n h))

-- the text of one operand, of two, or of three
one_text : (a : List ℕ) → codes "BinaryOperands < " ++ a ++ codes " >" ≡ front_of a ++ codes " >"
one_text a = sym (append_assoc (codes "BinaryOperands < ") a (codes " >"))

two_text : (a b : List ℕ) → codes "BinaryOperands < " ++ a ++ codes ", " ++ b ++ codes " >" ≡ with_operand (front_of a) b ++ codes " >"
two_text a b = simp append_assoc

three_text : (a b c : List ℕ) → codes "BinaryOperands < " ++ a ++ codes ", " ++ b ++ codes ", " ++ c ++ codes " >" ≡ with_operand (with_operand (front_of a) b) c ++ codes " >"
three_text a b c = simp append_assoc

operand_is : (s u w : List ℕ) → more_operands s w ≡ Some u → u ≡ with_operand s w
operand_is s u w e = (if_some (is_symbol w) (with_operand s w) u e).1

said : (at : ℕ) (w : List ℕ) (ts : List Lexeme) → is_symbol w ≡ true → Symbol w (Word at w ∷ ts) ts
said at w ts e = (at, w, refl, symbol_same w e)

-- operands up to the last, by how many more there are
operands_to : (a s all : List ℕ) (ts t1 t2 t3 t4 rest : List Lexeme) → Opens ts t1 → Key (codes "binary") t1 t2 → Symbol a t2 t3 → s ≡ front_of a → WordsFrom more_operands 2 s all t3 t4 → Closes t4 rest
    → FieldTypeS (all ++ codes " >") ts rest
operands_to a _ _ ts t1 t2 _ _ rest eo ek sa e (no_word _ s t3) ec =
    subst (λ z. FieldTypeS z ts rest) (one_text a ∙ ap (λ z. z ++ codes " >") (sym e)) (binary_one a ts t1 t2 t3 rest eo ek sa ec)
operands_to a _ _ ts t1 t2 _ _ rest eo ek sa e (a_word _ at b s u _ us _ h (no_word _ _ _)) ec =
    subst (λ z. FieldTypeS z ts rest) (two_text a b ∙ ap (λ z. with_operand z b ++ codes " >") (sym e) ∙ ap (λ z. z ++ codes " >") (sym (operand_is s u b h)))
    (binary_two a b ts t1 t2 (Word at b ∷ us) us rest eo ek sa (said at b us (operand_tested s u b h)) ec)
operands_to a _ _ ts t1 t2 _ _ rest eo ek sa e (a_word _ at b s u _ _ _ h (a_word _ bt c _ v _ us _ k (no_word _ _ _))) ec =
    subst (λ z. FieldTypeS z ts rest) (three_text a b c ∙ ap (λ z. with_operand (with_operand z b) c ++ codes " >") (sym e) ∙ ap (λ z. with_operand z c ++ codes " >") (sym (operand_is s u b h)) ∙ ap (λ z. z ++ codes " >") (sym (operand_is u v c k)))
    (binary_three a b c ts t1 t2 (Word at b ∷ Word bt c ∷ us) (Word bt c ∷ us) us rest eo ek sa (said at b (Word bt c ∷ us) (operand_tested s u b h)) (said bt c us (operand_tested u v c k)) ec)

shape_to : (b : Bool) (x : List ℕ) (at : ℕ) (w : List ℕ) (ts t1 t2 rest : List Lexeme) → Opens ts t1 → t1 ≡ Word at w ∷ t2 → IsShape b w → ShapeAfter b x t2 rest → FieldTypeS x ts rest
shape_to true x at w ts t1 t2 rest eo ew is (text, t3, (a, t3', sa, (e, q3)), (all, t4, ws, (c, t5, ec, (p, q)))) =
    ended FieldTypeS (all ++ codes " >") x ts t5 rest p q
    (operands_to a text all ts t1 t2 t3 t4 t5 eo (at, ew ∙ ap (λ z. Word at z ∷ t2) is) (subst (λ z. Symbol a t2 z) q3 sa) e ws (c, ec))
shape_to false x at w ts t1 t2 rest eo ew is (c, t3, ec, (p, q)) =
    ended FieldTypeS (codes "UpperRegSet < XReg >") x ts t3 rest p q (upper ts t1 t2 t3 eo (at, ew ∙ ap (λ z. Word at z ∷ t2) is) (c, ec))

type_to : (x : List ℕ) (ts rest : List Lexeme) → Either InShape Symbol x ts rest → FieldTypeS x ts rest
type_to x ts rest (inl (o, t1, eo, (b, t2, (at, w, ew, h), a))) = shape_to b x at w ts t1 t2 rest (o, eo) ew (shape_is w b h) a
type_to x ts rest (inr s) = plain x ts rest s

-- a symbol, with the word that it is
symbol_word : (a : List ℕ) (ts rest : List Lexeme) → Symbol a ts rest → (at : ℕ) × (ts ≡ Word at a ∷ rest) × (is_symbol a ≡ true)
symbol_word a ts rest (at, w, e, h) =
    let same = symbol_is w a h in
    (at, e ∙ ap (λ z. Word at z ∷ rest) (sym same), symbol_true a (ap symbol_of same ∙ h))

more_is : (s w : List ℕ) → is_symbol w ≡ true → more_operands s w ≡ Some (with_operand s w)
more_is s w e = ap (λ b. if b then Some (with_operand s w) else None) e

binary_is : (a all : List ℕ) (x : List ℕ) (ts t1 t2 t3 t4 rest : List Lexeme) → Opens ts t1 → Key (codes "binary") t1 t2 → Symbol a t2 t3 → WordsFrom more_operands 2 (front_of a) all t3 t4 → Closes t4 rest → x ≡ all ++ codes " >"
    → InShape x ts rest
binary_is a all x ts t1 t2 t3 t4 rest eo ek sa ws ec p =
    (eo.0, t1, eo.1, (true, t2, (ek.0, codes "binary", ek.1, refl), (front_of a, t3, (a, t3, sa, (refl, refl)), (all, t4, ws, (ec.0, rest, ec.1, (p, refl))))))

type_from : (x : List ℕ) (ts rest : List Lexeme) → FieldTypeS x ts rest → Either InShape Symbol x ts rest
type_from _ _ _ (plain x ts rest s) = inr s
type_from _ _ _ (binary_one a ts t1 t2 t3 rest eo ek sa ec) = inl (binary_is a (front_of a) _ ts t1 t2 t3 t3 rest eo ek sa (no_word 2 (front_of a) t3) ec (one_text a))
type_from _ _ _ (binary_two a b ts t1 t2 t3 t4 rest eo ek sa sb ec) =
    let y = symbol_word b t3 t4 sb in
    let t = with_operand (front_of a) b in
    inl (binary_is a t _ ts t1 t2 t3 t4 rest eo ek sa
    (subst (λ z. WordsFrom more_operands 2 (front_of a) t z t4) (sym y.1) (a_word 1 y.0 b (front_of a) t t t4 t4 (more_is (front_of a) b y.2) (no_word 1 t t4))) ec (two_text a b))
type_from _ _ _ (binary_three a b c ts t1 t2 t3 t4 t5 rest eo ek sa sb sc ec) =
    let y = symbol_word b t3 t4 sb in
    let z' = symbol_word c t4 t5 sc in
    let t = with_operand (front_of a) b in
    let u = with_operand t c in
    inl (binary_is a u _ ts t1 t2 t3 t5 rest eo ek sa
    (subst (λ z. WordsFrom more_operands 2 (front_of a) u z t5) (sym y.1) (a_word 1 y.0 b (front_of a) t u t4 t5 (more_is (front_of a) b y.2)
    (subst (λ z. WordsFrom more_operands 1 t u z t5) (sym z'.1) (a_word 0 z'.0 c t u u t5 t5 (more_is t c z'.2) (no_word 0 u t5))))) ec (three_text a b c))
type_from _ _ _ (upper ts t1 t2 rest eo ek ec) = inl (eo.0, t1, eo.1, (false, t2, (ek.0, codes "upper", ek.1, refl), (ec.0, rest, ec.1, (refl, refl))))

law_type : (n : ℕ) → Keeps 2 2 n FieldTypeS read_field_type
unfolding read_field_type
law_type n = law_map type_to type_from (law_peek is_open _ _ (λ x ts rest s c. (Open s.0, s.1, s.2, refl)) (λ x ts rest s c. (Word s.0 s.1, rest, s.2, refl)) (law_shape n) (law_symbol 2 n (omega arith)))

-- ---- fields

abbrev FieldShape : List ℕ × List ℕ → List Lexeme → List Lexeme → Type 0
FieldShape = Then OpenS (λ o. Then Symbol (λ name. Then FieldTypeS (λ type. Then CloseS (λ c. Nothing (name, type)))))

field_to : (x : List ℕ × List ℕ) (ts rest : List Lexeme) → FieldShape x ts rest → FieldS x ts rest
field_to x ts rest (o, t1, eo, (name, t2, sn, (type, t3, st, (c, t4, ec, (p, q))))) = ended FieldS (name, type) x ts t4 rest p q (field name type ts t1 t2 t3 t4 (o, eo) sn st (c, ec))

field_from : (x : List ℕ × List ℕ) (ts rest : List Lexeme) → FieldS x ts rest → FieldShape x ts rest
field_from _ _ _ (field name type ts t1 t2 t3 rest eo sn st ec) = (eo.0, t1, eo.1, (name, t2, sn, (type, t3, st, (ec.0, rest, ec.1, (refl, refl)))))

law_field : (n : ℕ) → Keeps 1 1 n FieldS read_field
unfolding read_field
law_field n = law_map field_to field_from
    (law_next _ _ (opens 1 n (omega arith)) (λ o.
    law_next _ _ (law_symbol 2 n (omega arith)) (λ name.
    law_next _ _ (law_type n) (λ type.
    law_next _ _ (closes 1 n (omega arith)) (λ c.
    law_ret (name, type) (λ q p. p))))))

field_heads : (x : List ℕ × List ℕ) (ts rest : List Lexeme) → FieldS x ts rest → Heads is_close false ts
field_heads x ts rest s = let y = field_from x ts rest s in (Open y.0, y.1, y.2, refl)

-- ---- an operation

-- what stands after the first word of an operation
abbrev pub OpAfter : PulleyInst → List Lexeme → List Lexeme → Type 0
OpAfter = Then Symbol (λ snake. Then Symbol (λ name. Then (Many FieldS) (λ fields. Nothing (record { snake_name = snake; name = name; fields = fields }))))

pub law_op : (n : ℕ) → Keeps 1 0 n OpAfter (read_op n)
unfolding read_op
law_op n =
    law_next _ _ (law_symbol 1 n (omega arith)) (λ snake.
    law_next _ _ (law_symbol 1 n (omega arith)) (λ name.
    law_next _ _ (law_many (Opened 0) n FieldS read_field (law_field n) (λ x ts rest s. tt) (λ at ts. tt) field_heads (opened_close 0 (omega (arith, few))) n (omega arith)) (λ fields.
    law_ret (record { snake_name = snake; name = name; fields = fields }) (λ q p. p))))

pub op_to : (word : List ℕ) (i : PulleyInst) (ts t1 t2 rest : List Lexeme) → Opens ts t1 → Key word t1 t2 → OpAfter i t2 rest → OpS word i ts rest
op_to word i ts t1 t2 rest eo ek (snake, t3, ss, (name, t4, sn, (fields, t5, m, (p, q)))) =
    ended (OpS word) (record { snake_name = snake; name = name; fields = fields }) i ts t5 rest p q (op snake name fields ts t1 t2 t3 t4 t5 eo ek ss sn m)

pub op_from : (word : List ℕ) (i : PulleyInst) (ts rest : List Lexeme) → OpS word i ts rest → (t1 t2 : List Lexeme) × Opens ts t1 × Key word t1 t2 × OpAfter i t2 rest
op_from word _ _ _ (op snake name fields ts t1 t2 t3 t4 rest eo ek ss sn m) = (t1, t2, eo, ek, (snake, t3, ss, (name, t4, sn, (fields, rest, m, (refl, refl)))))
