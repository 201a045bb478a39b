-- The readers of formats keep the law.
use Rattle.std.proofs.Common.{◌≡◌, ℕ, List, [], ◌∷◌, Bool, true, false, inl, inr, refl, ap, sym, ◌∙◌, subst, arith, Option, Some, None}
use Rattle.std.specs.Prelude.{if◌then◌else◌, bytes_eq, codes}
use Rattle.std.proofs.lemmas.Slice.Eq.{bytes_eq-Decides}
use Rattle.isle_lexer.specs.Lexeme.{Lexeme, Open, Close, Word}
use Rattle.isle_reading.specs.Combinators.{is_close, read_close, many}
use Rattle.isle_reading.specs.Reader.{Ret, bind}
use Rattle.isle_reading.specs.Relations.{Many, none, more}
use Rattle.isle_reading.proofs.Law.{Heads, Nothing, Then, Either, law_map, law_next, law_then}
use Rattle.isle_reading.proofs.TokenLaws.{OpenS, CloseS, Gives, law_ret, law_peek}
use Rattle.isle_reading.proofs.ListLaws.{law_many}
use Rattle.isle_reading.proofs.States.{Opened, opened_close}
use Rattle.isle_meta.specs.declared.clif.ImmField.{ImmField}
use Rattle.isle_meta.specs.declared.clif.InstructionFormat.{InstructionFormat}
use Rattle.isle_tables.specs.declared.item.Item.{Item}
use Rattle.isle_tables.specs.declared.item.Item.TheVariants as item
use Rattle.isle_tables.specs.Words.{count_of}
use Rattle.isle_tables.specs.Pieces.{Opens, Closes, Key, Says, Symbol, FlagS, CountS, count}
use Rattle.isle_tables.specs.Grammar.{ValuesS, no_values, one_of, ImmS, imm, TypevarS, no_typevar, typevar, FormatS, format}
use Rattle.isle_tables.specs.Reading.{part_of, Parts, Counts, read_one_of, read_values, read_imm_after, read_imm, read_part_head, read_parts_after, read_some_parts, read_parts, read_counts, read_format}
use Rattle.isle_tables.proofs.PieceLaws.{few, Keeps, ended, opens, closes, says, law_symbol, law_symbols, KeyS, law_key, law_flag, opens_no, law_count, law_counted, count_opens}

-- ---- the values of an immediate

-- [( one-of V* )] and the parenthesis after it
abbrev ValuesEnd : Option (List (List ℕ)) → List Lexeme → List Lexeme → Type 0
ValuesEnd v ts rest = (mid : List Lexeme) × ValuesS v ts mid × Closes mid rest

abbrev OneOfShape : Option (List (List ℕ)) → List Lexeme → List Lexeme → Type 0
OneOfShape = Then OpenS (λ o. Then (KeyS (codes "one-of")) (λ h. Then (Many Symbol) (λ vs. Then CloseS (λ c. Nothing (Some vs)))))

abbrev NoValuesShape : Option (List (List ℕ)) → List Lexeme → List Lexeme → Type 0
NoValuesShape = Then CloseS (λ c. Nothing None)

law_one_of : (n : ℕ) → Keeps 2 1 n OneOfShape (read_one_of n)
unfolding read_one_of
law_one_of n =
    law_next _ _ (opens 2 n (omega arith)) (λ o.
    law_next _ _ (law_key 3 n (codes "one-of") (omega arith)) (λ h.
    law_next _ _ (law_symbols 2 n (omega arith)) (λ vs.
    law_next _ _ (closes 1 n (omega arith)) (λ c.
    law_ret (Some vs) (λ q p. p)))))

values_to : (v : Option (List (List ℕ))) (ts rest : List Lexeme) → Either NoValuesShape OneOfShape v ts rest → ValuesEnd v ts rest
values_to v ts rest (inl (c, us, ec, (p, q))) = ended ValuesEnd None v ts us rest p q (ts, no_values ts, (c, ec))
values_to v ts rest (inr (o, t1, eo, (h, t2, ek, (vs, t3, m, (c, t4, ec, (p, q)))))) = ended ValuesEnd (Some vs) v ts t4 rest p q (t3, one_of vs ts t1 t2 t3 (o, eo) ek.1 m, (c, ec))

values_from : (v : Option (List (List ℕ))) (ts rest : List Lexeme) → ValuesEnd v ts rest → Either NoValuesShape OneOfShape v ts rest
values_from v ts rest (mid, s, ec) = by v ts mid s ec
  where
    by : (v : Option (List (List ℕ))) (ts mid : List Lexeme) → ValuesS v ts mid → Closes mid rest → Either NoValuesShape OneOfShape v ts rest
    by _ _ _ (no_values ts) ec = inl (ec.0, rest, ec.1, (refl, refl))
    by _ _ _ (one_of vs ts t1 t2 mid eo ek m) ec = inr (eo.0, t1, eo.1, (true, t2, (refl, ek), (vs, mid, m, (ec.0, rest, ec.1, (refl, refl)))))

law_values : (n : ℕ) → Keeps 2 1 n ValuesEnd (read_values n)
unfolding read_values
law_values n = law_map values_to values_from (law_peek is_close (bind read_close (λ c. Ret None)) (read_one_of n)
    (λ v ts rest s c. (Close s.0, s.1, s.2, refl)) (λ v ts rest s c. (Open s.0, s.1, s.2, refl))
    (law_next _ _ (closes 1 n (omega arith)) (λ c. law_ret None (λ q p. p))) (law_one_of n))

-- ---- immediates

-- MEMBER TYPE [( one-of V* )] )
abbrev ImmAfter : ImmField → List Lexeme → List Lexeme → Type 0
ImmAfter = Then Symbol (λ member. Then Symbol (λ type. Then ValuesEnd (λ vs. Nothing (record { member = member; rust_type = type; values = vs }))))

law_imm_after : (n : ℕ) → Keeps 2 1 n ImmAfter (read_imm_after n)
unfolding read_imm_after
law_imm_after n =
    law_next _ _ (law_symbol 2 n (omega arith)) (λ member.
    law_next _ _ (law_symbol 2 n (omega arith)) (λ type.
    law_next _ _ (law_values n) (λ vs.
    law_ret (record { member = member; rust_type = type; values = vs }) (λ q p. p))))

abbrev ImmShape : ImmField → List Lexeme → List Lexeme → Type 0
ImmShape = Then OpenS (λ o. Then (KeyS (codes "imm")) (λ h. ImmAfter))

imm_after_to : (i : ImmField) (ts t1 t2 rest : List Lexeme) → Opens ts t1 → Key (codes "imm") t1 t2 → ImmAfter i t2 rest → ImmS i ts rest
imm_after_to i ts t1 t2 rest eo ek (member, t3, sm, (type, t4, st, (vs, t6, (t5, v, ec), (p, q)))) = ended ImmS _ i ts t6 rest p q (imm member type vs ts t1 t2 t3 t4 t5 t6 eo ek sm st v ec)

imm_to : (i : ImmField) (ts rest : List Lexeme) → ImmShape i ts rest → ImmS i ts rest
imm_to i ts rest (o, t1, eo, (h, t2, ek, a)) = imm_after_to i ts t1 t2 rest (o, eo) ek.1 a

-- what stands after the word of an immediate
imm_parts : (i : ImmField) (ts rest : List Lexeme) → ImmS i ts rest → (t1 t2 : List Lexeme) × Opens ts t1 × Key (codes "imm") t1 t2 × ImmAfter i t2 rest
imm_parts _ _ _ (imm member type vs ts t1 t2 t3 t4 t5 rest eo ek sm st v ec) = (t1, t2, eo, ek, (member, t3, sm, (type, t4, st, (vs, rest, (t5, v, ec), (refl, refl)))))

imm_from : (i : ImmField) (ts rest : List Lexeme) → ImmS i ts rest → ImmShape i ts rest
imm_from i ts rest s = let x = imm_parts i ts rest s in (x.2.0, x.0, x.2.1, (true, x.1, (refl, x.3), x.4))

law_imm : (n : ℕ) → Keeps 1 1 n ImmS (read_imm n)
unfolding read_imm
law_imm n = law_map imm_to imm_from
    (law_next _ _ (opens 1 n (omega arith)) (λ o.
    law_next _ _ (law_key 2 n (codes "imm") (omega arith)) (λ h.
    law_imm_after n)))

imm_heads : (i : ImmField) (ts rest : List Lexeme) → ImmS i ts rest → Heads is_close false ts
imm_heads i ts rest s = let x = imm_parts i ts rest s in (Open x.2.0, x.0, x.2.1, refl)

law_imms : (n : ℕ) → Keeps 1 0 n (Many ImmS) (many n (read_imm n))
law_imms n = law_many (Opened 0) n ImmS (read_imm n) (law_imm n) (λ i ts rest s. tt) (λ at ts. tt) imm_heads (opened_close 0 (omega (arith, few))) n (omega arith)

-- ---- the typevar operand, and the immediates

-- what the first word of a list says
abbrev IsPart : Bool → List ℕ → Type 0
IsPart true w = w ≡ codes "typevar"
IsPart false w = w ≡ codes "imm"

part_is : (w : List ℕ) (b : Bool) → part_of w ≡ Some b → IsPart b w
part_is w b e = by (bytes_eq w (codes "typevar")) (bytes_eq w (codes "imm")) refl refl e
  where
    by : (x y : Bool) → bytes_eq w (codes "typevar") ≡ x → bytes_eq w (codes "imm") ≡ y → (if x then Some true else (if y then Some false else None)) ≡ Some b → IsPart b w
    by true y f g e = subst (λ z. IsPart z w) (let x : true ≡ b = cc in x) ((bytes_eq-Decides w (codes "typevar")).0 f)
    by false true f g e = subst (λ z. IsPart z w) (let x : false ≡ b = cc in x) ((bytes_eq-Decides w (codes "imm")).0 g)
    by false false f g e = cc

a_part : Gives part_of
a_part = (codes "imm", false, refl)

abbrev PartsAfter : Bool → Parts → List Lexeme → List Lexeme → Type 0
PartsAfter true = Then (Says count_of) (λ v. Then CloseS (λ c. Then (Many ImmS) (λ imms. Nothing (Some v, imms))))
PartsAfter false = Then ImmAfter (λ i. Then (Many ImmS) (λ imms. Nothing (None, i ∷ imms)))

law_parts_after : (n : ℕ) (b : Bool) → Keeps 2 0 n (PartsAfter b) (read_parts_after n b)
unfolding read_parts_after
law_parts_after n true =
    law_next _ _ (law_count 2 n (omega arith)) (λ v.
    law_next _ _ (closes 1 n (omega arith)) (λ c.
    law_next _ _ (law_imms n) (λ imms.
    law_ret (Some v, imms) (λ q p. p))))
law_parts_after n false =
    law_next _ _ (law_imm_after n) (λ i.
    law_next _ _ (law_imms n) (λ imms.
    law_ret (None, i ∷ imms) (λ q p. p)))

abbrev SomePartsShape : Parts → List Lexeme → List Lexeme → Type 0
SomePartsShape = Then OpenS (λ o. Then (Says part_of) (λ h. PartsAfter h))

law_some_parts : (n : ℕ) → Keeps 1 0 n SomePartsShape (read_some_parts n)
unfolding read_some_parts read_part_head
law_some_parts n =
    law_next _ _ (opens 1 n (omega arith)) (λ o.
    law_next _ _ (says 2 n part_of a_part (omega arith)) (λ h.
    law_parts_after n h))

abbrev NoPartsShape : Parts → List Lexeme → List Lexeme → Type 0
NoPartsShape = Then CloseS (λ c. Nothing (None, []))

-- [( typevar NUM )] ( imm MEMBER TYPE [( one-of V* )] )* )
abbrev pub PartsEnd : Parts → List Lexeme → List Lexeme → Type 0
PartsEnd p ts rest = (mid : List Lexeme) × TypevarS p.0 ts mid × Many ImmS p.1 mid rest

some_parts_to : (b : Bool) (p : Parts) (at : ℕ) (w : List ℕ) (ts t1 t2 rest : List Lexeme) → Opens ts t1 → t1 ≡ Word at w ∷ t2 → IsPart b w → PartsAfter b p t2 rest → PartsEnd p ts rest
some_parts_to true p at w ts t1 t2 rest eo ew is (v, t3, sv, (c, t4, ec, (imms, t5, m, (e, q)))) =
    ended PartsEnd (Some v, imms) p ts t5 rest e q (t4, typevar v ts t4 (count v ts t1 t2 t3 t4 eo (at, ew ∙ ap (λ z. Word at z ∷ t2) is) sv (c, ec)), m)
some_parts_to false p at w ts t1 t2 rest eo ew is (i, t3, a, (imms, t4, m, (e, q))) =
    ended PartsEnd (None, i ∷ imms) p ts t4 rest e q (ts, no_typevar ts, more i imms ts t3 t4 (imm_after_to i ts t1 t2 t3 eo (at, ew ∙ ap (λ z. Word at z ∷ t2) is) a) m)

parts_to : (p : Parts) (ts rest : List Lexeme) → Either NoPartsShape SomePartsShape p ts rest → PartsEnd p ts rest
parts_to p ts rest (inl (c, us, ec, (e, q))) = ended PartsEnd (None, []) p ts us rest e q (ts, no_typevar ts, subst (λ z. Many ImmS [] z us) (sym ec) (none c us))
parts_to p ts rest (inr (o, t1, eo, (b, t2, (at, w, ew, h), a))) = some_parts_to b p at w ts t1 t2 rest (o, eo) ew (part_is w b h) a

parts_from : (p : Parts) (ts rest : List Lexeme) → PartsEnd p ts rest → Either NoPartsShape SomePartsShape p ts rest
parts_from p ts rest (mid, t, m) = by p.0 p.1 ts mid rest t m
  where
    by : (v : Option ℕ) (imms : List ImmField) (ts mid rest : List Lexeme) → TypevarS v ts mid → Many ImmS imms mid rest → Either NoPartsShape SomePartsShape (v, imms) ts rest
    by _ _ _ _ _ (no_typevar _) (none at rest) = inl (at, rest, refl, (refl, refl))
    by _ _ _ _ _ (no_typevar _) (more i imms ts t3 rest s m) =
        let x = imm_parts i ts t3 s in
        inr (x.2.0, x.0, x.2.1, (false, x.1, (x.3.0, codes "imm", x.3.1, refl), (i, t3, x.4, (imms, rest, m, (refl, refl)))))
    by _ imms _ _ rest (typevar _ _ _ (count v ts t1 t2 t3 t4 eo ek sv ec)) m =
        inr (eo.0, t1, eo.1, (true, t2, (ek.0, codes "typevar", ek.1, refl), (v, t3, sv, (ec.0, t4, ec.1, (imms, rest, m, (refl, refl))))))

law_parts : (n : ℕ) → Keeps 1 0 n PartsEnd (read_parts n)
unfolding read_parts
law_parts n = law_map parts_to parts_from (law_peek is_close (bind read_close (λ c. Ret (None, []))) (read_some_parts n)
    (λ p ts rest s c. (Close s.0, s.1, s.2, refl)) (λ p ts rest s c. (Open s.0, s.1, s.2, refl))
    (law_next _ _ (closes 0 n (omega arith)) (λ c. law_ret (None, []) (λ q p. p))) (law_some_parts n))

-- ---- a format

-- ( values NUM ) ( blocks NUM ) ( raw NUM )
abbrev pub CountsS : Counts → List Lexeme → List Lexeme → Type 0
CountsS = Then (CountS (codes "values")) (λ v. Then (CountS (codes "blocks")) (λ b. Then (CountS (codes "raw")) (λ r. Nothing (v, b, r))))

law_counts : (n : ℕ) → Keeps 1 1 n CountsS read_counts
unfolding read_counts
law_counts n =
    law_next _ _ (law_counted 1 n (codes "values") (omega arith)) (λ v.
    law_next _ _ (law_counted 1 n (codes "blocks") (omega arith)) (λ b.
    law_next _ _ (law_counted 1 n (codes "raw") (omega arith)) (λ r.
    law_ret (v, b, r) (λ q p. p))))

-- the format of these parts
abbrev pub format_of : List ℕ → Bool → Counts → Parts → InstructionFormat
format_of name list k p = record { name = name; has_value_list = list; num_value_operands = k.0; num_block_operands = k.1; num_raw_block_operands = k.2; imm_fields = p.1; typevar_operand = p.0 }

-- what stands after the first word of a format
abbrev pub FormatAfter : Item → List Lexeme → List Lexeme → Type 0
FormatAfter = Then Symbol (λ name. Then (FlagS (codes "list")) (λ list. Then CountsS (λ k. Then PartsEnd (λ p. Nothing (item.Format (format_of name list k p))))))

pub law_format : (n : ℕ) → Keeps 1 0 n FormatAfter (read_format n)
unfolding read_format
law_format n =
    law_next _ _ (law_symbol 1 n (omega arith)) (λ name.
    law_then _ _ (λ list i ts rest s d. let x = count_opens (codes "values") s.2.0 ts s.2.1 s.2.2 in opens_no (codes "list") ts x.0 x.1) (law_flag 1 n (codes "list") (omega arith)) (λ list.
    law_next _ _ (law_counts n) (λ k.
    law_next _ _ (law_parts n) (λ p.
    law_ret (item.Format (format_of name list k p)) (λ q p. p)))))

pub format_to : (i : Item) (ts t1 t2 rest : List Lexeme) → Opens ts t1 → Key (codes "format") t1 t2 → FormatAfter i t2 rest → (f : InstructionFormat) × (i ≡ item.Format f) × FormatS f ts rest
format_to i ts t1 t2 rest eo ek (name, t3, sn, (list, t4, sl, (k, t7, (v, t5, cv, (b, t6, cb, (r, t7', cr, (ek', eq')))), (p, t9, (t8, tv, m), (e, q))))) = (
  format_of name list k p,
  e,
  subst (λ z. FormatS (format_of name list k p) ts z) q (subst (λ z. FormatS (format_of name list z p) ts t9) (sym ek')
      (format name list v b r p.0 p.1 ts t1 t2 t3 t4 t5 t6 t7 t8 t9 eo ek sn sl cv cb (subst (λ z. CountS (codes "raw") r t6 z) eq' cr) tv m)),
)

pub format_from : (f : InstructionFormat) (ts rest : List Lexeme) → FormatS f ts rest → (t1 t2 : List Lexeme) × Opens ts t1 × Key (codes "format") t1 t2 × FormatAfter (item.Format f) t2 rest
format_from _ _ _ (format name list v b r tv imms ts t1 t2 t3 t4 t5 t6 t7 t8 rest eo ek sn sl cv cb cr st m) =
    (t1, t2, eo, ek, (name, t3, sn, (list, t4, sl, ((v, b, r), t7, (v, t5, cv, (b, t6, cb, (r, t7, cr, (refl, refl)))), ((tv, imms), rest, (t8, st, m), (refl, refl))))))
