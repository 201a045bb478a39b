-- The readers of the assembler's instructions keep the law.
use Rattle.std.proofs.Common.{◌≡◌, ℕ, List, true, false, inl, inr, refl, ap, sym, subst, arith, Option, Some, None}
use Rattle.std.specs.Prelude.{codes}
use Rattle.isle_lexer.specs.Lexeme.{Lexeme, Open, Close}
use Rattle.isle_reading.specs.Combinators.{is_close, read_close}
use Rattle.isle_reading.specs.Reader.{Ret, bind}
use Rattle.isle_reading.specs.Relations.{Many}
use Rattle.isle_reading.proofs.Law.{Law, Heads, Nothing, Then, Either, law_map, law_next, law_then}
use Rattle.isle_reading.proofs.TokenLaws.{OpenS, CloseS, Gives, NoWord, law_ret, law_peek}
use Rattle.isle_reading.proofs.ListLaws.{law_many}
use Rattle.isle_reading.proofs.States.{Opened, opened_close}
use Rattle.isle_meta.specs.declared.machine.OperandKind.TheVariants as kind
use Rattle.isle_meta.specs.declared.machine.Mutability.TheVariants as mutability
use Rattle.isle_meta.specs.declared.machine.Operand.{Operand}
use Rattle.isle_meta.specs.declared.machine.Alternate.{Alternate}
use Rattle.isle_meta.specs.declared.machine.Inst.{Inst}
use Rattle.isle_tables.specs.declared.item.Item.{Item}
use Rattle.isle_tables.specs.declared.item.Item.TheVariants as item
use Rattle.isle_tables.specs.Words.{bits_of, kind_of, mutability_of}
use Rattle.isle_tables.specs.Pieces.{Opens, Closes, Key, Says, Symbol, FlagS}
use Rattle.isle_tables.specs.Grammar.{XopS, xop, XopsS, xops, AltS, no_alt, alt, X64S, x64}
use Rattle.isle_tables.specs.Reading.{flag_of, XopForm, TwoFlags, ThreeFlags, X64Front, read_bits, read_kind, read_mutability, read_xop_form, read_xop_flags, read_xop, read_xops, read_x64_flags, read_alternate, read_some_alt, read_alt, read_x64_front, read_x64}
use Rattle.isle_tables.proofs.PieceLaws.{few, Keeps, ended, opens, closes, says, law_symbol, KeyS, law_key, law_flag, opens_no, closes_no, flag_no}

-- ---- operands

a_bits : Gives bits_of
unfolding bits_of
a_bits = (codes "0", 0, refl)

a_kind : Gives kind_of
unfolding kind_of
a_kind = (codes "imm", kind.Imm, refl)

a_mutability : Gives mutability_of
unfolding mutability_of
a_mutability = (codes "r", mutability.Read, refl)

-- BITS kind mut
abbrev FormS : XopForm → List Lexeme → List Lexeme → Type 0
FormS = Then (Says bits_of) (λ b. Then (Says kind_of) (λ k. Then (Says mutability_of) (λ m. Nothing (b, k, m))))

law_form : (n : ℕ) → Keeps 3 3 n FormS read_xop_form
unfolding read_xop_form read_bits read_kind read_mutability
law_form n =
    law_next _ _ (says 3 n bits_of a_bits (omega arith)) (λ b.
    law_next _ _ (says 3 n kind_of a_kind (omega arith)) (λ k.
    law_next _ _ (says 3 n mutability_of a_mutability (omega arith)) (λ m.
    law_ret (b, k, m) (λ q p. p))))

-- [signed] [align] )
abbrev FlagsS : TwoFlags → List Lexeme → List Lexeme → Type 0
FlagsS = Then (FlagS (codes "signed")) (λ s. Then (FlagS (codes "align")) (λ a. Then CloseS (λ c. Nothing (s, a))))

law_flags : (n : ℕ) → Keeps 3 2 n FlagsS read_xop_flags
unfolding read_xop_flags
law_flags n =
    law_then _ _ (λ t x ts rest s d. flag_no (codes "signed") (codes "align") s.0 ts s.1 refl s.2 (closes_no (codes "signed") s.1 s.3.1 (s.3.0, s.3.2))) (law_flag 3 n (codes "signed") (omega arith)) (λ s.
    law_then _ _ (λ e x ts rest s d. closes_no (codes "align") ts s.1 (s.0, s.2)) (law_flag 3 n (codes "align") (omega arith)) (λ a.
    law_next _ _ (closes 2 n (omega arith)) (λ c.
    law_ret (s, a) (λ q p. p))))

-- the operand of these parts
abbrev operand_of : List ℕ → XopForm → TwoFlags → Operand
operand_of location f g = record { location = location; bits = f.0; kind = f.1; mutability = f.2; sign_extended = g.0; align = g.1 }

abbrev XopShape : Operand → List Lexeme → List Lexeme → Type 0
XopShape = Then OpenS (λ o. Then Symbol (λ location. Then FormS (λ f. Then FlagsS (λ g. Nothing (operand_of location f g)))))

form_parts : (f : XopForm) (ts rest : List Lexeme) → FormS f ts rest → (t1 t2 : List Lexeme) × Says bits_of f.0 ts t1 × Says kind_of f.1 t1 t2 × Says mutability_of f.2 t2 rest
form_parts f ts rest (b, t1, sb, (k, t2, sk, (m, t3, sm, (p, q)))) =
    subst (λ (z : XopForm). (t1 t2 : List Lexeme) × Says bits_of z.0 ts t1 × Says kind_of z.1 t1 t2 × Says mutability_of z.2 t2 rest) (sym p) (t1, t2, sb, sk, subst (λ z. Says mutability_of m t2 z) q sm)

flags_parts : (g : TwoFlags) (ts rest : List Lexeme) → FlagsS g ts rest → (t1 t2 : List Lexeme) × FlagS (codes "signed") g.0 ts t1 × FlagS (codes "align") g.1 t1 t2 × Closes t2 rest
flags_parts g ts rest (s, t1, fs, (a, t2, fa, (c, t3, ec, (p, q)))) =
    subst (λ (z : TwoFlags). (t1 t2 : List Lexeme) × FlagS (codes "signed") z.0 ts t1 × FlagS (codes "align") z.1 t1 t2 × Closes t2 rest) (sym p) (t1, t2, fs, fa, subst (λ z. Closes t2 z) q (c, ec))

xop_to : (x : Operand) (ts rest : List Lexeme) → XopShape x ts rest → XopS x ts rest
xop_to x ts rest (o, t1, eo, (location, t2, sl, (f, t5, sf, (g, t8, sg, (p, q))))) =
    let y = form_parts f t2 t5 sf in
    let z = flags_parts g t5 t8 sg in
    ended XopS (operand_of location f g) x ts t8 rest p q (xop location f.0 f.1 f.2 g.0 g.1 ts t1 t2 y.0 y.1 t5 z.0 z.1 t8 (o, eo) sl y.2 y.3 y.4 z.2 z.3 z.4)

xop_from : (x : Operand) (ts rest : List Lexeme) → XopS x ts rest → XopShape x ts rest
xop_from _ _ _ (xop location b k m signed align ts t1 t2 t3 t4 t5 t6 t7 rest eo sl sb sk sm fs fa ec) =
    (eo.0, t1, eo.1, (location, t2, sl, ((b, k, m), t5, (b, t3, sb, (k, t4, sk, (m, t5, sm, (refl, refl)))), ((signed, align), rest, (signed, t6, fs, (align, t7, fa, (ec.0, rest, ec.1, (refl, refl)))), (refl, refl)))))

law_xop : (n : ℕ) → Keeps 2 2 n XopS read_xop
unfolding read_xop
law_xop n = law_map xop_to xop_from
    (law_next _ _ (opens 2 n (omega arith)) (λ o.
    law_next _ _ (law_symbol 3 n (omega arith)) (λ location.
    law_next _ _ (law_form n) (λ f.
    law_next _ _ (law_flags n) (λ g.
    law_ret (operand_of location f g) (λ q p. p))))))

xop_heads : (x : Operand) (ts rest : List Lexeme) → XopS x ts rest → Heads is_close false ts
xop_heads x ts rest s = let y = xop_from x ts rest s in (Open y.0, y.1, y.2, refl)

xops_to : (xs : List Operand) (ts rest : List Lexeme) → Then OpenS (λ o. Many XopS) xs ts rest → XopsS xs ts rest
xops_to xs ts rest (o, t1, eo, m) = xops xs ts t1 rest (o, eo) m

xops_from : (xs : List Operand) (ts rest : List Lexeme) → XopsS xs ts rest → Then OpenS (λ o. Many XopS) xs ts rest
xops_from _ _ _ (xops xs ts t1 rest eo m) = (eo.0, t1, eo.1, m)

law_xops : (n : ℕ) → Keeps 1 1 n XopsS (read_xops n)
unfolding read_xops
law_xops n = law_map xops_to xops_from
    (law_next _ _ (opens 1 n (omega arith)) (λ o.
    law_many (Opened 1) n XopS read_xop (law_xop n) (λ x ts rest s. tt) (λ at ts. tt) xop_heads (opened_close 1 (omega (arith, few))) n (omega arith)))

-- ---- the alternate

abbrev AlternateS : Alternate → List Lexeme → List Lexeme → Type 0
AlternateS = Then OpenS (λ o. Then (KeyS (codes "alt")) (λ h. Then Symbol (λ name. Then Symbol (λ feature. Then CloseS (λ c. Nothing (record { name = name; feature = feature }))))))

law_alternate : (n : ℕ) → Keeps 1 1 n AlternateS read_alternate
unfolding read_alternate
law_alternate n =
    law_next _ _ (opens 1 n (omega arith)) (λ o.
    law_next _ _ (law_key 2 n (codes "alt") (omega arith)) (λ h.
    law_next _ _ (law_symbol 2 n (omega arith)) (λ name.
    law_next _ _ (law_symbol 2 n (omega arith)) (λ feature.
    law_next _ _ (closes 1 n (omega arith)) (λ c.
    law_ret (record { name = name; feature = feature }) (λ q p. p))))))

-- [( alt NAME FEATURE )] and the parenthesis after it
abbrev AltEnd : Option Alternate → List Lexeme → List Lexeme → Type 0
AltEnd a ts rest = (mid : List Lexeme) × AltS a ts mid × Closes mid rest

abbrev SomeAltShape : Option Alternate → List Lexeme → List Lexeme → Type 0
SomeAltShape = Then AlternateS (λ a. Then CloseS (λ c. Nothing (Some a)))

abbrev NoAltShape : Option Alternate → List Lexeme → List Lexeme → Type 0
NoAltShape = Then CloseS (λ c. Nothing None)

alt_to : (a : Option Alternate) (ts rest : List Lexeme) → Either NoAltShape SomeAltShape a ts rest → AltEnd a ts rest
alt_to a ts rest (inl (c, us, ec, (p, q))) = ended AltEnd None a ts us rest p q (ts, no_alt ts, (c, ec))
alt_to a ts rest (inr (x, t6, (o, t1, eo, (h, t2, ek, (name, t3, sn, (feature, t4, sf, (c, t5, ec, (p, q)))))), (d, t7, ed, (r, u)))) =
    ended AltEnd (Some x) a ts t7 rest r u (t6, ended AltS (Some (record { name = name; feature = feature })) (Some x) ts t5 t6 (ap (λ z. Some z) p) q (alt name feature ts t1 t2 t3 t4 t5 (o, eo) ek.1 sn sf (c, ec)), (d, ed))

alt_from : (a : Option Alternate) (ts rest : List Lexeme) → AltEnd a ts rest → Either NoAltShape SomeAltShape a ts rest
alt_from a ts rest (mid, s, ed) = by a ts mid s ed
  where
    by : (a : Option Alternate) (ts mid : List Lexeme) → AltS a ts mid → Closes mid rest → Either NoAltShape SomeAltShape a ts rest
    by _ _ _ (no_alt ts) ed = inl (ed.0, rest, ed.1, (refl, refl))
    by _ _ _ (alt name feature ts t1 t2 t3 t4 mid eo ek sn sf ec) ed =
        inr (record { name = name; feature = feature }, mid, (eo.0, t1, eo.1, (true, t2, (refl, ek), (name, t3, sn, (feature, t4, sf, (ec.0, mid, ec.1, (refl, refl)))))), (ed.0, rest, ed.1, (refl, refl)))

law_alt : (n : ℕ) → Keeps 1 0 n AltEnd read_alt
unfolding read_alt read_some_alt
law_alt n = law_map alt_to alt_from (law_peek is_close (bind read_close (λ c. Ret None)) (bind read_alternate (λ a. bind read_close (λ c. Ret (Some a))))
    (λ a ts rest s c. (Close s.0, s.1, s.2, refl)) (λ a ts rest s c. (Open s.2.0, s.2.1, s.2.2, refl))
    (law_next _ _ (closes 0 n (omega arith)) (λ c. law_ret None (λ q p. p)))
    (law_next _ _ (law_alternate n) (λ a.
    law_next _ _ (closes 0 n (omega arith)) (λ c.
    law_ret (Some a) (λ q p. p)))))

-- no word may stand where the alternate or the end does
alt_no : (key : List ℕ) (a : Option Alternate) (ts rest : List Lexeme) → AltEnd a ts rest → NoWord (flag_of key) ts
alt_no key a ts rest (mid, s, ed) = by a ts mid s ed
  where
    by : (a : Option Alternate) (ts mid : List Lexeme) → AltS a ts mid → Closes mid rest → NoWord (flag_of key) ts
    by _ _ _ (no_alt ts) ed = closes_no key ts rest ed
    by _ _ _ (alt name feature ts t1 t2 t3 t4 mid eo ek sn sf ec) ed = opens_no key ts t1 eo

-- ---- an instruction

-- MNEMONIC NAME ( xop* )
abbrev FrontS : X64Front → List Lexeme → List Lexeme → Type 0
FrontS = Then Symbol (λ mnemonic. Then Symbol (λ name. Then XopsS (λ xs. Nothing (mnemonic, name, xs))))

law_front : (n : ℕ) → Keeps 1 1 n FrontS (read_x64_front n)
unfolding read_x64_front
law_front n =
    law_next _ _ (law_symbol 1 n (omega arith)) (λ mnemonic.
    law_next _ _ (law_symbol 1 n (omega arith)) (λ name.
    law_next _ _ (law_xops n) (λ xs.
    law_ret (mnemonic, name, xs) (λ q p. p))))

-- no word of a flag may stand there
abbrev NoFlag : List Lexeme → Type 0
NoFlag ts = NoWord (flag_of (codes "reads")) ts × NoWord (flag_of (codes "writes")) ts × NoWord (flag_of (codes "trap")) ts

-- [reads] [writes] [trap]
abbrev X64Flags : ThreeFlags → List Lexeme → List Lexeme → Type 0
X64Flags = Then (FlagS (codes "reads")) (λ r. Then (FlagS (codes "writes")) (λ w. Then (FlagS (codes "trap")) (λ t. Nothing (r, w, t))))

law_x64_flags : (n : ℕ) → Law (Opened 1) (λ g. Opened 1) NoFlag n X64Flags read_x64_flags
unfolding read_x64_flags
law_x64_flags n =
    law_then _ _ (λ r x ts rest s d. flag_no (codes "reads") (codes "writes") s.0 ts s.1 refl s.2 (flag_no (codes "reads") (codes "trap") s.3.0 s.1 s.3.1 refl s.3.2 (subst (NoWord (flag_of (codes "reads"))) (sym s.3.3.1) d.0)))
    (law_flag 1 n (codes "reads") (omega arith)) (λ r.
    law_then _ _ (λ w x ts rest s d. flag_no (codes "writes") (codes "trap") s.0 ts s.1 refl s.2 (subst (NoWord (flag_of (codes "writes"))) (sym s.3.1) d.1))
    (law_flag 1 n (codes "writes") (omega arith)) (λ w.
    law_then _ _ (λ t x ts rest s d. subst (NoWord (flag_of (codes "trap"))) (sym s.1) d.2)
    (law_flag 1 n (codes "trap") (omega arith)) (λ t.
    law_ret (r, w, t) (λ q p. p))))

-- the instruction of these parts
abbrev pub x64_of : X64Front → ThreeFlags → Option Alternate → Inst
x64_of f g a = record { mnemonic = f.0; name = f.1; operands = f.2; reads_flags = g.0; writes_flags = g.1; has_trap = g.2; alternate = a }

-- what stands after the first word of an instruction
abbrev pub X64After : Item → List Lexeme → List Lexeme → Type 0
X64After = Then FrontS (λ f. Then X64Flags (λ g. Then AltEnd (λ a. Nothing (item.X64 (x64_of f g a)))))

pub law_x64 : (n : ℕ) → Keeps 1 0 n X64After (read_x64 n)
unfolding read_x64
law_x64 n =
    law_next _ _ (law_front n) (λ f.
    law_then _ _ (λ g i ts rest s d. (alt_no (codes "reads") s.0 ts s.1 s.2, alt_no (codes "writes") s.0 ts s.1 s.2, alt_no (codes "trap") s.0 ts s.1 s.2)) (law_x64_flags n) (λ g.
    law_next _ _ (law_alt n) (λ a.
    law_ret (item.X64 (x64_of f g a)) (λ q p. p))))

front_parts : (f : X64Front) (ts rest : List Lexeme) → FrontS f ts rest → (t1 t2 : List Lexeme) × Symbol f.0 ts t1 × Symbol f.1 t1 t2 × XopsS f.2 t2 rest
front_parts f ts rest (m, t1, sm, (name, t2, sn, (xs, t3, so, (p, q)))) =
    subst (λ (z : X64Front). (t1 t2 : List Lexeme) × Symbol z.0 ts t1 × Symbol z.1 t1 t2 × XopsS z.2 t2 rest) (sym p) (t1, t2, sm, sn, subst (λ z. XopsS xs t2 z) q so)

x64_flags_parts : (g : ThreeFlags) (ts rest : List Lexeme) → X64Flags g ts rest → (t1 t2 : List Lexeme) × FlagS (codes "reads") g.0 ts t1 × FlagS (codes "writes") g.1 t1 t2 × FlagS (codes "trap") g.2 t2 rest
x64_flags_parts g ts rest (r, t1, fr, (w, t2, fw, (t, t3, ft, (p, q)))) =
    subst (λ (z : ThreeFlags). (t1 t2 : List Lexeme) × FlagS (codes "reads") z.0 ts t1 × FlagS (codes "writes") z.1 t1 t2 × FlagS (codes "trap") z.2 t2 rest) (sym p) (t1, t2, fr, fw, subst (λ z. FlagS (codes "trap") t t2 z) q ft)

pub x64_to : (i : Item) (ts t1 t2 rest : List Lexeme) → Opens ts t1 → Key (codes "x64") t1 t2 → X64After i t2 rest → (x : Inst) × (i ≡ item.X64 x) × X64S x ts rest
x64_to i ts t1 t2 rest eo ek (f, t5, sf, (g, t8, sg, (a, t10, (t9, sa, ec), (p, q)))) =
    let x = front_parts f t2 t5 sf in
    let y = x64_flags_parts g t5 t8 sg in
    (x64_of f g a, p, subst (λ z. X64S (x64_of f g a) ts z) q (x64 f.0 f.1 f.2 g.0 g.1 g.2 a ts t1 t2 x.0 x.1 t5 y.0 y.1 t8 t9 t10 eo ek x.2 x.3 x.4 y.2 y.3 y.4 sa ec))

pub x64_from : (x : Inst) (ts rest : List Lexeme) → X64S x ts rest → (t1 t2 : List Lexeme) × Opens ts t1 × Key (codes "x64") t1 t2 × X64After (item.X64 x) t2 rest
x64_from _ _ _ (x64 m name xs r w t a ts t1 t2 t3 t4 t5 t6 t7 t8 t9 rest eo ek sm sn so fr fw ft sa ec) =
    (t1, t2, eo, ek, ((m, name, xs), t5, (m, t3, sm, (name, t4, sn, (xs, t5, so, (refl, refl)))), ((r, w, t), t8, (r, t6, fr, (w, t7, fw, (t, t8, ft, (refl, refl)))), (a, rest, (t9, sa, ec), (refl, refl)))))
