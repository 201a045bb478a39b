-- The laws of the readers of what types are declared as.
use Rattle.std.proofs.Common.{◌≡◌, ℕ, zero, suc, ◌≤◌, List, [], ◌∷◌, length, true, false, inl, inr, refl, ap, sym, ◌∙◌, subst, arith, Some}
use Rattle.std.specs.Prelude.{codes}
use Rattle.isle_lexer.specs.Lexeme.{Lexeme, Open, Close, Word}
use Rattle.isle_reading.specs.Reader.{Ret, bind}
use Rattle.isle_reading.specs.Combinators.{is_open, is_close, read_close, many, some}
use Rattle.isle_reading.specs.Names.{NameS, symbol, name_of, read_name}
use Rattle.isle_reading.specs.Nesting.{Mark, Round, most_open}
use Rattle.isle_reading.specs.Relations.{Begins, Anything, Many, none, more}
use Rattle.isle_reading.proofs.Law.{Law, Heads, Some_token, Nothing, Then, Either, law_map, law_next}
use Rattle.isle_reading.proofs.TokenLaws.{OpenS, CloseS, WordS, law_ret, law_open, law_word, law_peek, law_spent}
use Rattle.isle_reading.proofs.ListLaws.{One_more, law_many, law_some}
use Rattle.isle_reading.proofs.NameLaws.{law_name, name_heads}
use Rattle.isle_reading.proofs.States.{Inside, inside_open, inside_close, inside_word}
use Rattle.isle_ast.specs.declared.tree.AstBody.{AstBody}
use Rattle.isle_ast.specs.declared.tree.AstBody.TheVariants as body
use Rattle.isle_ast.specs.declared.tree.AstFields.{AstFields}
use Rattle.isle_ast.specs.declared.tree.AstFields.TheVariants as fields
use Rattle.isle_ast.specs.declared.tree.AstVariant.{AstVariant}
use Rattle.isle_grammar.specs.Grammar.{FieldS, field, ShapeS, unit, named, tuple, VariantS, plain, shaped, BodyHead, IsPrimitive, IsEnum, IsStruct, body_head, BodyS, primitive, enum, struct}
use Rattle.isle_grammar.specs.Reading.{read_field, read_shape, read_shaped, read_variant, read_body_head, body_behind, read_body}
use Rattle.isle_grammar.proofs.Expressions.{Closed, law_closed}

-- ---- ( f T )

abbrev Field : List ℕ × List ℕ → List Lexeme → List Lexeme → Type 0
Field = Then OpenS (λ o. Then NameS (λ f. Then NameS (λ t. Closed (f, t))))

field_to : (x : List ℕ × List ℕ) (ts rest : List Lexeme) → Field x ts rest → FieldS x ts rest
field_to x ts rest (o, us, eo, (f, vs, sf, (t, ws, st, (c, end, ec, (p, q))))) =
    subst (λ z. FieldS z ts rest) (sym p) (subst (λ z. FieldS (f, t) z rest) (sym eo) (field o c f t us vs rest sf (subst (NameS t vs) (ec ∙ ap (λ z. Close c ∷ z) q) st)))

field_from : (x : List ℕ × List ℕ) (ts rest : List Lexeme) → FieldS x ts rest → Field x ts rest
field_from _ _ _ (field at c f t ts mid rest sf st) = (at, ts, refl, (f, mid, sf, (t, Close c ∷ rest, st, (c, rest, refl, (refl, refl)))))

field_heads : (x : List ℕ × List ℕ) (ts rest : List Lexeme) → FieldS x ts rest → Heads is_close false ts
field_heads _ _ _ (field at c f t ts mid rest sf st) = (Open at, ts, refl, refl)

law_a_name : (n : ℕ) (ms : List Mark) → suc (length ms) ≤ most_open → Law (Inside (Round ∷ ms)) (λ w. Inside (Round ∷ ms)) Anything n NameS read_name
law_a_name n ms l = law_name (inside_word (Round ∷ ms) name_of l)

law_field : (n : ℕ) (ms : List Mark) → suc (suc (length ms)) ≤ most_open → Law (Inside (Round ∷ ms)) (λ x. Inside (Round ∷ ms)) Anything n FieldS read_field
unfolding read_field
law_field n ms l = law_map field_to field_from (law_next _ _ (law_open (inside_open (Round ∷ ms) tt l)) (λ o.
    law_next _ _ (law_a_name n (Round ∷ ms) l) (λ f. law_next _ _ (law_a_name n (Round ∷ ms) l) (λ t. law_closed ms (inside_close Round (Round ∷ ms) (omega (arith, l))) (f, t)))))

-- ---- shape )

abbrev FieldsShape : AstFields → List Lexeme → List Lexeme → Type 0
FieldsShape = Then (One_more FieldS) (λ fs. Nothing (fields.Named fs))

abbrev TypesShape : AstFields → List Lexeme → List Lexeme → Type 0
TypesShape = Then (One_more NameS) (λ ts. Nothing (fields.Tuple ts))

abbrev SomeShape : AstFields → List Lexeme → List Lexeme → Type 0
SomeShape = Either FieldsShape TypesShape

shape_to : (x : AstFields) (ts rest : List Lexeme) → Either (Closed fields.Unit) SomeShape x ts rest → ShapeS x ts rest
shape_to x ts rest (inl (c, us, e, (p, q))) = subst (λ z. ShapeS z ts rest) (sym p) (subst (λ z. ShapeS fields.Unit z rest) (sym (e ∙ ap (λ z. Close c ∷ z) q)) (unit c rest))
shape_to x ts rest (inr (inl (fs, mid, (f, us, s, (others, vs, m, (p, q))), (g, h)))) =
    subst (λ z. ShapeS z ts rest) (sym (g ∙ ap (λ z. fields.Named z) p)) (named f others ts rest (more f others ts us rest s (subst (Many FieldS others us) (q ∙ h) m)))
shape_to x ts rest (inr (inr (fs, mid, (f, us, s, (others, vs, m, (p, q))), (g, h)))) =
    subst (λ z. ShapeS z ts rest) (sym (g ∙ ap (λ z. fields.Tuple z) p)) (tuple f others ts rest (more f others ts us rest s (subst (Many NameS others us) (q ∙ h) m)))

many_more : {A : Type 0} {S : A → List Lexeme → List Lexeme → Type 0} (a : A) (others xs : List A) (ts rest : List Lexeme) → Many S xs ts rest → xs ≡ a ∷ others → One_more S (a ∷ others) ts rest
many_more a others _ _ _ (none at ts) e = cc
many_more {S = S} a others _ _ _ (more b more_of ts mid rest s m) e =
    let x : b ≡ a = cc in
    let y : more_of ≡ others = cc in
    (a, mid, subst (λ z. S z ts mid) x s, (others, rest, subst (λ z. Many S z mid rest) y m, (refl, refl)))

shape_from : (x : AstFields) (ts rest : List Lexeme) → ShapeS x ts rest → Either (Closed fields.Unit) SomeShape x ts rest
shape_from _ _ _ (unit at ts) = inl (at, ts, refl, (refl, refl))
shape_from _ _ _ (named f others ts rest m) = inr (inl (f ∷ others, rest, many_more f others (f ∷ others) ts rest m refl, (refl, refl)))
shape_from _ _ _ (tuple t others ts rest m) = inr (inr (t ∷ others, rest, many_more t others (t ∷ others) ts rest m refl, (refl, refl)))

name_no_open : (w : List ℕ) (ts rest : List Lexeme) → NameS w ts rest → Heads is_open false ts
name_no_open _ _ _ (symbol at w ts h) = (Word at w, ts, refl, refl)

field_open : (x : List ℕ × List ℕ) (ts rest : List Lexeme) → FieldS x ts rest → Heads is_open true ts
field_open _ _ _ (field at c f t ts mid rest sf st) = (Open at, ts, refl, refl)

some_heads : (x : AstFields) (ts rest : List Lexeme) → SomeShape x ts rest → Heads is_close false ts
some_heads x ts rest (inl (fs, mid, (f, us, s, y), z)) = field_heads f ts us s
some_heads x ts rest (inr (fs, mid, (f, us, s, y), z)) = name_heads f ts us s

shape_some : (x : AstFields) (ts rest : List Lexeme) → ShapeS x ts rest → Some_token ts
shape_some _ _ _ (unit at ts) = (Close at, ts, refl)
shape_some _ _ _ (named f others ts rest m) = some_more f others (f ∷ others) ts rest m
  where
    some_more : (f : List ℕ × List ℕ) (others xs : List (List ℕ × List ℕ)) (ts rest : List Lexeme) → Many FieldS xs ts rest → Some_token ts
    some_more f others _ _ _ (none at ts) = (Close at, ts, refl)
    some_more f others _ _ _ (more b os ts mid rest s m) = let x = field_heads b ts mid s in (x.0, x.1, x.2)
shape_some _ _ _ (tuple t others ts rest m) = some_more t others (t ∷ others) ts rest m
  where
    some_more : (t : List ℕ) (others xs : List (List ℕ)) (ts rest : List Lexeme) → Many NameS xs ts rest → Some_token ts
    some_more t others _ _ _ (none at ts) = (Close at, ts, refl)
    some_more t others _ _ _ (more b os ts mid rest s m) = let x = name_heads b ts mid s in (x.0, x.1, x.2)

law_fields : (k : ℕ) (ms : List Mark) → suc (suc (suc (length ms))) ≤ most_open → Law (Inside (Round ∷ Round ∷ ms)) (λ fs. Inside (Round ∷ ms)) Anything (suc k) FieldsShape (bind (some k read_field) (λ fs. Ret (fields.Named fs)))
law_fields k ms l = law_next _ _
    (law_some {C = Anything} (Inside (Round ∷ ms)) (suc k) FieldS read_field (law_field (suc k) (Round ∷ ms) l) (λ x ts rest s. tt) (λ at ts. tt) field_heads (inside_close Round (Round ∷ ms) (omega (arith, l))) k (omega arith))
    (λ fs. law_ret (fields.Named fs) (λ q p. p))

law_types : (k : ℕ) (ms : List Mark) → suc (suc (suc (length ms))) ≤ most_open → Law (Inside (Round ∷ Round ∷ ms)) (λ fs. Inside (Round ∷ ms)) Anything (suc k) TypesShape (bind (some k read_name) (λ ts. Ret (fields.Tuple ts)))
law_types k ms l = law_next _ _
    (law_some {C = Anything} (Inside (Round ∷ ms)) (suc k) NameS read_name (law_a_name (suc k) (Round ∷ ms) (omega (arith, l))) (λ x ts rest s. tt) (λ at ts. tt) name_heads (inside_close Round (Round ∷ ms) (omega (arith, l))) k (omega arith))
    (λ fs. law_ret (fields.Tuple fs) (λ q p. p))

law_shape : (n : ℕ) (ms : List Mark) → suc (suc (suc (length ms))) ≤ most_open → Law (Inside (Round ∷ Round ∷ ms)) (λ fs. Inside (Round ∷ ms)) Anything n ShapeS (read_shape n)
unfolding read_shape
law_shape zero ms l = law_spent shape_some (Close 0 ∷ [], fields.Unit, λ tail c. unit 0 tail)
law_shape (suc k) ms l = law_map shape_to shape_from (law_peek is_close _ _ (λ x ts rest s c. (Close s.0, s.1, s.2, refl)) (λ x ts rest s c. some_heads x ts rest s) (law_closed ms (inside_close Round (Round ∷ ms) (omega (arith, l))) fields.Unit)
    (law_peek is_open _ _ (λ x ts rest s c. field_open s.2.0 ts s.2.1 s.2.2) (λ x ts rest s c. name_no_open s.2.0 ts s.2.1 s.2.2) (law_fields k ms l) (law_types k ms l)))

-- ---- V or ( V shape )

abbrev Shaped : AstVariant → List Lexeme → List Lexeme → Type 0
Shaped = Then OpenS (λ o. Then NameS (λ name. Then ShapeS (λ fs. Nothing (record { name = name; fields = fs }))))

abbrev Plain : AstVariant → List Lexeme → List Lexeme → Type 0
Plain = Then NameS (λ name. Nothing (record { name = name; fields = fields.Unit }))

variant_to : (v : AstVariant) (ts rest : List Lexeme) → Either Shaped Plain v ts rest → VariantS v ts rest
variant_to v ts rest (inl (o, us, e, (name, vs, s, (fs, ws, t, (p, q))))) =
    subst (λ z. VariantS z ts rest) (sym p) (subst (λ z. VariantS (record { name = name; fields = fs }) z rest) (sym e) (shaped o name fs us vs rest s (subst (ShapeS fs vs) q t)))
variant_to v ts rest (inr (name, us, s, (p, q))) = subst (λ z. VariantS z ts rest) (sym p) (plain name ts rest (subst (NameS name ts) q s))

variant_from : (v : AstVariant) (ts rest : List Lexeme) → VariantS v ts rest → Either Shaped Plain v ts rest
variant_from _ _ _ (plain name ts rest s) = inr (name, rest, s, (refl, refl))
variant_from _ _ _ (shaped at name fs ts mid rest s t) = inl (at, ts, refl, (name, mid, s, (fs, rest, t, (refl, refl))))

variant_heads : (v : AstVariant) (ts rest : List Lexeme) → VariantS v ts rest → Heads is_close false ts
variant_heads _ _ _ (plain name ts rest s) = name_heads name ts rest s
variant_heads _ _ _ (shaped at name fs ts mid rest s t) = (Open at, ts, refl, refl)

law_variant : (n : ℕ) (ms : List Mark) → suc (suc (suc (length ms))) ≤ most_open → Law (Inside (Round ∷ ms)) (λ v. Inside (Round ∷ ms)) Anything n VariantS (read_variant n)
unfolding read_variant read_shaped
law_variant n ms l = law_map variant_to variant_from (law_peek is_open _ _ (λ v ts rest s c. (Open s.0, s.1, s.2, refl)) (λ v ts rest s c. name_no_open s.0 ts s.1 s.2)
    (law_next _ _ (law_open (inside_open (Round ∷ ms) tt (omega (arith, l)))) (λ o. law_next _ _ (law_a_name n (Round ∷ ms) (omega (arith, l))) (λ name.
    law_next _ _ (law_shape n ms l) (λ fs. law_ret (record { name = name; fields = fs }) (λ q p. p)))))
    (law_next _ _ (law_a_name n ms (omega (arith, l))) (λ name. law_ret (record { name = name; fields = fields.Unit }) (λ q p. p))))

-- ---- a body, in a definition's list

abbrev BodyBehind : BodyHead → AstBody → List Lexeme → List Lexeme → Type 0
BodyBehind IsPrimitive = Then NameS (λ name. Closed (body.Primitive name))
BodyBehind IsEnum = Then (Many VariantS) (λ vs. Nothing (body.Enum vs))
BodyBehind IsStruct = Then ShapeS (λ fs. Nothing (body.Struct fs))

abbrev Body : AstBody → List Lexeme → List Lexeme → Type 0
Body = Then OpenS (λ o. Then (WordS body_head) BodyBehind)

behind_to : (o n : ℕ) (w : List ℕ) (h : BodyHead) (b : AstBody) (us rest : List Lexeme) → body_head w ≡ Some h → BodyBehind h b us rest → BodyS b (Open o ∷ Word n w ∷ us) rest
behind_to o n w IsPrimitive b us rest hw (name, vs, s, (c, end, ec, (p, q))) = subst (λ z. BodyS z (Open o ∷ Word n w ∷ us) rest) (sym p) (primitive o n c w name us rest hw (subst (NameS name us) (ec ∙ ap (λ z. Close c ∷ z) q) s))
behind_to o n w IsEnum b us rest hw (vs, end, m, (p, q)) = subst (λ z. BodyS z (Open o ∷ Word n w ∷ us) rest) (sym p) (enum o n w vs us rest hw (subst (Many VariantS vs us) q m))
behind_to o n w IsStruct b us rest hw (fs, end, s, (p, q)) = subst (λ z. BodyS z (Open o ∷ Word n w ∷ us) rest) (sym p) (struct o n w fs us rest hw (subst (ShapeS fs us) q s))

body_to : (b : AstBody) (ts rest : List Lexeme) → Body b ts rest → BodyS b ts rest
body_to b ts rest (o, vs, eo, (h, us, (n, w, ew, hw), s)) = subst (λ z. BodyS b z rest) (sym (eo ∙ ap (λ z. Open o ∷ z) ew)) (behind_to o n w h b us rest hw s)

body_from : (b : AstBody) (ts rest : List Lexeme) → BodyS b ts rest → Body b ts rest
body_from _ _ _ (primitive at n c w name ts rest hw s) = (at, Word n w ∷ ts, refl, (IsPrimitive, ts, (n, w, refl, hw), (name, Close c ∷ rest, s, (c, rest, refl, (refl, refl)))))
body_from _ _ _ (enum at n w vs ts rest hw m) = (at, Word n w ∷ ts, refl, (IsEnum, ts, (n, w, refl, hw), (vs, rest, m, (refl, refl))))
body_from _ _ _ (struct at n w fs ts rest hw s) = (at, Word n w ∷ ts, refl, (IsStruct, ts, (n, w, refl, hw), (fs, rest, s, (refl, refl))))

pub body_opens : (b : AstBody) (ts rest : List Lexeme) → BodyS b ts rest → (at : ℕ) × (us : List Lexeme) × (ts ≡ Open at ∷ us)
body_opens b ts rest s = let x = body_from b ts rest s in (x.0, x.1, x.2)

four_open : 4 ≤ most_open
unfolding most_open
four_open = omega arith

pub law_body : (n : ℕ) → Law (Inside (Round ∷ [])) (λ b. Inside (Round ∷ [])) Anything n BodyS (read_body n)
unfolding read_body read_body_head
law_body n = law_map body_to body_from (law_next _ _ (law_open (inside_open (Round ∷ []) tt (omega (arith, four_open)))) (λ o.
    law_next _ _ (law_word body_head (codes "enum", IsEnum, refl) (inside_word (Round ∷ Round ∷ []) body_head (omega (arith, four_open)))) law_behind))
  where
    law_behind : (h : BodyHead) → Law (Inside (Round ∷ Round ∷ [])) (λ b. Inside (Round ∷ [])) Anything n (BodyBehind h) (body_behind n h)
    law_behind IsPrimitive = law_next _ _ (law_a_name n (Round ∷ []) (omega (arith, four_open))) (λ name. law_closed [] (inside_close Round (Round ∷ []) (omega (arith, four_open))) (body.Primitive name))
    law_behind IsEnum = law_next _ _
        (law_many {C = Anything} (Inside (Round ∷ [])) n VariantS (read_variant n) (law_variant n (Round ∷ []) (omega (arith, four_open))) (λ v ts rest s. tt) (λ at ts. tt) variant_heads (inside_close Round (Round ∷ []) (omega (arith, four_open))) n (omega arith))
        (λ vs. law_ret (body.Enum vs) (λ q p. p))
    law_behind IsStruct = law_next _ _ (law_shape n [] (omega (arith, four_open))) (λ fs. law_ret (body.Struct fs) (λ q p. p))
