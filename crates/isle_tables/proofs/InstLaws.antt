-- The readers of instructions keep the law.
use Rattle.std.proofs.Common.{◌≡◌, ℕ, List, ◌∷◌, Bool, true, false, refl, ap, sym, ◌∙◌, subst, arith, Option, Some, None}
use Rattle.std.specs.Prelude.{if◌then◌else◌, option_map, bytes_eq, codes}
use Rattle.std.proofs.lemmas.Slice.Eq.{bytes_eq-Decides}
use Rattle.isle_lexer.specs.Lexeme.{Lexeme, Open, Word}
use Rattle.isle_reading.specs.Combinators.{is_close}
use Rattle.isle_reading.specs.Relations.{Many}
use Rattle.isle_reading.proofs.Law.{Heads, Nothing, Then, law_map, law_next, law_then}
use Rattle.isle_reading.proofs.TokenLaws.{OpenS, CloseS, Gives, law_ret}
use Rattle.isle_reading.proofs.ListLaws.{law_many}
use Rattle.isle_reading.proofs.States.{Opened, opened_close}
use Rattle.isle_meta.specs.declared.clif.OperandClass.{OperandClass}
use Rattle.isle_meta.specs.declared.clif.OperandClass.TheVariants as class
use Rattle.isle_meta.specs.declared.clif.ClifOperand.{ClifOperand}
use Rattle.isle_tables.specs.declared.item.InstRow.{InstRow}
use Rattle.isle_tables.specs.declared.item.Item.{Item}
use Rattle.isle_tables.specs.declared.item.Item.TheVariants as item
use Rattle.isle_tables.specs.Words.{class_of}
use Rattle.isle_tables.specs.Pieces.{Opens, Closes, Key, Says, Symbol, PlacedS, FlagS, CountS}
use Rattle.isle_tables.specs.Grammar.{OpndS, alone, immediate, OpndsS, opnds, InstS, inst}
use Rattle.isle_tables.specs.Reading.{opnd_head_of, InstNames, Effects, read_opnd_head, read_class, read_opnd, read_opnds, read_inst_names, read_effects, read_inst}
use Rattle.isle_tables.proofs.PieceLaws.{few, Keeps, ended, opens, closes, says, law_symbol, law_placed, KeyS, law_key, law_flag, closes_no, flag_no, law_counted}

-- ---- operands

-- what the first word of an operand says
abbrev IsHead : Option OperandClass → List ℕ → Type 0
IsHead None w = w ≡ codes "imm"
IsHead (Some c) w = class_of w ≡ Some c

head_is : (w : List ℕ) (h : Option OperandClass) → opnd_head_of w ≡ Some h → IsHead h w
head_is w h e = by (bytes_eq w (codes "imm")) (class_of w) refl refl e
  where
    by : (b : Bool) (o : Option OperandClass) → bytes_eq w (codes "imm") ≡ b → class_of w ≡ o → (if b then Some None else option_map (λ c. Some c) o) ≡ Some h → IsHead h w
    by true o f g e = subst (λ z. IsHead z w) (let x : None ≡ h = cc in x) ((bytes_eq-Decides w (codes "imm")).0 f)
    by false None f g e = cc
    by false (Some c) f g e = subst (λ z. IsHead z w) (let x : Some c ≡ h = cc in x) g

imm_head : opnd_head_of (codes "imm") ≡ Some None
imm_head = refl

no_class : (c : OperandClass) → class_of (codes "imm") ≡ Some c → ⊥
unfolding class_of
no_class c e = let x : None ≡ Some c = e in cc

class_head : (w : List ℕ) (c : OperandClass) → class_of w ≡ Some c → opnd_head_of w ≡ Some (Some c)
class_head w c h = by (bytes_eq w (codes "imm")) refl
  where
    by : (b : Bool) → bytes_eq w (codes "imm") ≡ b → (if b then Some None else option_map (λ c. Some c) (class_of w)) ≡ Some (Some c)
    by true f = absurd (no_class c (ap class_of (sym ((bytes_eq-Decides w (codes "imm")).0 f)) ∙ h))
    by false f = ap (option_map (λ c. Some c)) h

a_head : Gives opnd_head_of
a_head = (codes "imm", None, refl)

abbrev ClassS : Option OperandClass → OperandClass → List Lexeme → List Lexeme → Type 0
ClassS None = Then Symbol (λ type. Nothing (class.Imm type))
ClassS (Some c) = Nothing c

law_class : (n : ℕ) (h : Option OperandClass) → Keeps 3 3 n (ClassS h) (read_class h)
unfolding read_class
law_class n None =
    law_next _ _ (law_symbol 3 n (omega arith)) (λ type.
    law_ret (class.Imm type) (λ q p. p))
law_class n (Some c) = law_ret c (λ q p. p)

abbrev OpndShape : ClifOperand → List Lexeme → List Lexeme → Type 0
OpndShape = Then OpenS (λ o. Then (Says opnd_head_of) (λ h. Then Symbol (λ name. Then (ClassS h) (λ c. Then CloseS (λ e. Nothing (record { name = name; class = c }))))))

opnd_by : (h : Option OperandClass) (c : OperandClass) (name : List ℕ) (at : ℕ) (w : List ℕ) (ts t1 t2 t3 t4 rest : List Lexeme) → Opens ts t1 → t1 ≡ Word at w ∷ t2 → IsHead h w → Symbol name t2 t3 → ClassS h c t3 t4 → Closes t4 rest
    → OpndS (record { name = name; class = c }) ts rest
opnd_by None c name at w ts t1 t2 t3 t4 rest eo ew is sn (type, t5, st, (p, q)) ec =
    subst (λ z. OpndS (record { name = name; class = z }) ts rest) (sym p) (immediate name type ts t1 t2 t3 t5 rest eo (at, ew ∙ ap (λ z. Word at z ∷ t2) is) sn st (subst (λ z. Closes z rest) (sym q) ec))
opnd_by (Some d) c name at w ts t1 t2 t3 t4 rest eo ew is sn (p, q) ec =
    subst (λ z. OpndS (record { name = name; class = z }) ts rest) (sym p) (alone d name ts t1 t2 t3 rest eo (at, w, ew, is) sn (subst (λ z. Closes z rest) (sym q) ec))

opnd_to : (x : ClifOperand) (ts rest : List Lexeme) → OpndShape x ts rest → OpndS x ts rest
opnd_to x ts rest (o, t1, eo, (h, t2, (at, w, ew, eh), (name, t3, sn, (c, t4, sc, (e, t5, ec, (p, q)))))) =
    ended OpndS (record { name = name; class = c }) x ts t5 rest p q (opnd_by h c name at w ts t1 t2 t3 t4 t5 (o, eo) ew (head_is w h eh) sn sc (e, ec))

opnd_from : (x : ClifOperand) (ts rest : List Lexeme) → OpndS x ts rest → OpndShape x ts rest
opnd_from _ _ _ (alone c name ts t1 t2 t3 rest eo (at, w, ew, h) sn ec) = (eo.0, t1, eo.1, (Some c, t2, (at, w, ew, class_head w c h), (name, t3, sn, (c, t3, (refl, refl), (ec.0, rest, ec.1, (refl, refl))))))
opnd_from _ _ _ (immediate name type ts t1 t2 t3 t4 rest eo ek sn st ec) =
    (eo.0, t1, eo.1, (None, t2, (ek.0, codes "imm", ek.1, imm_head), (name, t3, sn, (class.Imm type, t4, (type, t4, st, (refl, refl)), (ec.0, rest, ec.1, (refl, refl))))))

law_opnd : (n : ℕ) → Keeps 2 2 n OpndS read_opnd
unfolding read_opnd read_opnd_head
law_opnd n = law_map opnd_to opnd_from
    (law_next _ _ (opens 2 n (omega arith)) (λ o.
    law_next _ _ (says 3 n opnd_head_of a_head (omega arith)) (λ h.
    law_next _ _ (law_symbol 3 n (omega arith)) (λ name.
    law_next _ _ (law_class n h) (λ c.
    law_next _ _ (closes 2 n (omega arith)) (λ e.
    law_ret (record { name = name; class = c }) (λ q p. p)))))))

opnd_heads : (x : ClifOperand) (ts rest : List Lexeme) → OpndS x ts rest → Heads is_close false ts
opnd_heads x ts rest s = let y = opnd_from x ts rest s in (Open y.0, y.1, y.2, refl)

abbrev OpndsShape : List ClifOperand → List Lexeme → List Lexeme → Type 0
OpndsShape = Then OpenS (λ o. Then (KeyS (codes "in")) (λ h. Many OpndS))

opnds_to : (xs : List ClifOperand) (ts rest : List Lexeme) → OpndsShape xs ts rest → OpndsS xs ts rest
opnds_to xs ts rest (o, t1, eo, (h, t2, ek, m)) = opnds xs ts t1 t2 rest (o, eo) ek.1 m

opnds_from : (xs : List ClifOperand) (ts rest : List Lexeme) → OpndsS xs ts rest → OpndsShape xs ts rest
opnds_from _ _ _ (opnds xs ts t1 t2 rest eo ek m) = (eo.0, t1, eo.1, (true, t2, (refl, ek), m))

law_opnds : (n : ℕ) → Keeps 1 1 n OpndsS (read_opnds n)
unfolding read_opnds
law_opnds n = law_map opnds_to opnds_from
    (law_next _ _ (opens 1 n (omega arith)) (λ o.
    law_next _ _ (law_key 2 n (codes "in") (omega arith)) (λ h.
    law_many (Opened 1) n OpndS read_opnd (law_opnd n) (λ x ts rest s. tt) (λ at ts. tt) opnd_heads (opened_close 1 (omega (arith, few))) n (omega arith))))

-- ---- an instruction

abbrev NamesS : InstNames → List Lexeme → List Lexeme → Type 0
NamesS = Then Symbol (λ name. Then Symbol (λ camel. Then PlacedS (λ f. Nothing (name, camel, f.0, f.1))))

law_names : (n : ℕ) → Keeps 1 1 n NamesS read_inst_names
unfolding read_inst_names
law_names n =
    law_next _ _ (law_symbol 1 n (omega arith)) (λ name.
    law_next _ _ (law_symbol 1 n (omega arith)) (λ camel.
    law_next _ _ (law_placed 1 n (omega arith)) (λ f.
    law_ret (name, camel, f.0, f.1) (λ q p. p))))

-- ( out NUM ) [trap] [effect] )
abbrev EffectsS : Effects → List Lexeme → List Lexeme → Type 0
EffectsS = Then (CountS (codes "out")) (λ r. Then (FlagS (codes "trap")) (λ t. Then (FlagS (codes "effect")) (λ e. Then CloseS (λ c. Nothing (r, t, e)))))

law_effects : (n : ℕ) → Keeps 1 0 n EffectsS read_effects
unfolding read_effects
law_effects n =
    law_next _ _ (law_counted 1 n (codes "out") (omega arith)) (λ r.
    law_then _ _ (λ t x ts rest s d. flag_no (codes "trap") (codes "effect") s.0 ts s.1 refl s.2 (closes_no (codes "trap") s.1 s.3.1 (s.3.0, s.3.2))) (law_flag 1 n (codes "trap") (omega arith)) (λ t.
    law_then _ _ (λ e x ts rest s d. closes_no (codes "effect") ts s.1 (s.0, s.2)) (law_flag 1 n (codes "effect") (omega arith)) (λ e.
    law_next _ _ (closes 0 n (omega arith)) (λ c.
    law_ret (r, t, e) (λ q p. p)))))

-- the row of these parts
abbrev pub row_of : InstNames → List ClifOperand → Effects → InstRow
row_of names xs e = record { name = names.0; camel_name = names.1; format = names.2; format_at = names.3; operands_in = xs; value_results = e.0; can_trap = e.1; other_side_effects = e.2 }

-- what stands after the first word of an instruction
abbrev pub InstAfter : Item → List Lexeme → List Lexeme → Type 0
InstAfter = Then NamesS (λ names. Then OpndsS (λ xs. Then EffectsS (λ e. Nothing (item.Inst (row_of names xs e)))))

pub law_inst : (n : ℕ) → Keeps 1 0 n InstAfter (read_inst n)
unfolding read_inst
law_inst n =
    law_next _ _ (law_names n) (λ names.
    law_next _ _ (law_opnds n) (λ xs.
    law_next _ _ (law_effects n) (λ e.
    law_ret (item.Inst (row_of names xs e)) (λ q p. p))))

names_of : (names : InstNames) (ts rest : List Lexeme) → NamesS names ts rest → (t1 t2 : List Lexeme) × Symbol names.0 ts t1 × Symbol names.1 t1 t2 × PlacedS (names.2, names.3) t2 rest
names_of names ts rest (name, t1, sn, (camel, t2, sc, (f, t3, sf, (p, q)))) =
    subst (λ (z : InstNames). (t1 t2 : List Lexeme) × Symbol z.0 ts t1 × Symbol z.1 t1 t2 × PlacedS (z.2, z.3) t2 rest) (sym p) (t1, t2, sn, sc, subst (λ z. PlacedS f t2 z) q sf)

effects_of : (e : Effects) (ts rest : List Lexeme) → EffectsS e ts rest → (t1 t2 t3 : List Lexeme) × CountS (codes "out") e.0 ts t1 × FlagS (codes "trap") e.1 t1 t2 × FlagS (codes "effect") e.2 t2 t3 × Closes t3 rest
effects_of e ts rest (r, t1, cr, (t, t2, ft, (f, t3, fe, (c, t4, ec, (p, q))))) =
    subst (λ (z : Effects). (t1 t2 t3 : List Lexeme) × CountS (codes "out") z.0 ts t1 × FlagS (codes "trap") z.1 t1 t2 × FlagS (codes "effect") z.2 t2 t3 × Closes t3 rest) (sym p)
    (t1, t2, t3, cr, ft, fe, subst (λ z. Closes t3 z) q (c, ec))

pub inst_to : (i : Item) (ts t1 t2 rest : List Lexeme) → Opens ts t1 → Key (codes "inst") t1 t2 → InstAfter i t2 rest → (r : InstRow) × (i ≡ item.Inst r) × InstS r ts rest
inst_to i ts t1 t2 rest eo ek (names, t5, sn, (xs, t6, so, (e, t10, se, (p, q)))) =
    let x = names_of names t2 t5 sn in
    let y = effects_of e t6 t10 se in (
      row_of names xs e,
      p,
      subst (λ z. InstS (row_of names xs e) ts z) q
          (inst names.0 names.1 names.2 names.3 xs e.0 e.1 e.2 ts t1 t2 x.0 x.1 t5 t6 y.0 y.1 y.2 t10 eo ek x.2 x.3 x.4 so y.3 y.4 y.5 y.6),
    )

pub inst_from : (r : InstRow) (ts rest : List Lexeme) → InstS r ts rest → (t1 t2 : List Lexeme) × Opens ts t1 × Key (codes "inst") t1 t2 × InstAfter (item.Inst r) t2 rest
inst_from _ _ _ (inst name camel f at xs results trap effect ts t1 t2 t3 t4 t5 t6 t7 t8 t9 rest eo ek sn sc sf so cr ft fe ec) =
    (t1, t2, eo, ek, ((name, camel, f, at), t5, (name, t3, sn, (camel, t4, sc, ((f, at), t5, sf, (refl, refl)))), (xs, t6, so, ((results, trap, effect), rest, (results, t7, cr, (trap, t8, ft, (effect, t9, fe, (ec.0, rest, ec.1, (refl, refl))))), (refl, refl)))))
