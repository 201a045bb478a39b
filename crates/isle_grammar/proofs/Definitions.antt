-- The law of the reader of definitions.
use Rattle.std.proofs.Common.{◌≡◌, ℕ, List, [], ◌∷◌, Bool, true, false, inl, inr, refl, ap, sym, ◌∙◌, subst, arith, Option, Some, None, ℤ}
use Rattle.std.specs.Prelude.{codes, bytes_eq, if◌then◌else◌, option_map}
use Rattle.std.proofs.lemmas.Slice.Eq.{bytes_eq-Decides}
use Rattle.isle_lexer.specs.Lexeme.{Lexeme, Open, Close, Word}
use Rattle.isle_lexer.specs.Word.{WordKind, Number, Malformed, Truth, Dollar, Underscore, Plain, kind, names, IsName, is_flag}
use Rattle.isle_reading.specs.Reader.{Reader}
use Rattle.isle_reading.specs.Names.{NameS, symbol, name_of}
use Rattle.isle_reading.specs.Nesting.{Nest, Round, Passed, Other, is_passed}
use Rattle.isle_reading.specs.Relations.{Anything, Many, WordsFrom}
use Rattle.isle_reading.proofs.Law.{Law, Some_token, Nothing, Then, Either, law_map, law_next, law_states}
use Rattle.isle_reading.proofs.TokenLaws.{OpenS, CloseS, WordS, law_open, law_word}
use Rattle.isle_reading.proofs.NameLaws.{name_some}
use Rattle.isle_reading.proofs.States.{Inside, AtHead, top_open, behind_inside, head_word_by}
use Rattle.isle_ast.specs.Tree.{Pattern, Expr, IfLet, Def}
use Rattle.isle_ast.specs.Tree as tree
use Rattle.isle_ast.specs.declared.tree.AstBody.{AstBody}
use Rattle.isle_grammar.specs.Grammar.{PatternS, TailS, BodyS, AnyS, RuleNameS, PrioS, Flags, no_flags, with_flag, Marks, no_marks, with_mark, DefS, type_decl, decl, extern_constructor, extern_extractor, extern_infallible, extern_const, extractor, convert, rule, passed}
use Rattle.isle_grammar.specs.Reading.{constant_of, ExternHead, IsConstructor, IsExtractor, IsConst, extern_head, Head, TypeHead, DeclHead, RuleHead, AnExternHead, ExtractorHead, ConvertHead, PassedHead, head_of, read_head, read_behind, read_def}
use Rattle.isle_grammar.proofs.Expressions.{Closed}
use Rattle.isle_grammar.proofs.DefinitionForms.{few_open, the_type, TypeForm, law_type, the_decl, DeclForm, decl_name_by, law_decl, ConstructorForm, the_extractor, TwoNames, ExtractorFunction, constant_word, ConstForm, ExternBehind, ExternForm, law_extern}
use Rattle.isle_grammar.proofs.DefinitionForms.{ExtractorForm, law_extractor, ConvertForm, law_convert, the_rule, RuleForm, law_rule, PassedForm, law_passed}

-- ---- heads

-- what a word says of the definition that it begins
data HeadIs (w : List ℕ) : Head → Type 0 where
  is_type : w ≡ codes "type" → HeadIs w TypeHead
  is_decl : w ≡ codes "decl" → HeadIs w DeclHead
  is_rule : w ≡ codes "rule" → HeadIs w RuleHead
  is_extern : w ≡ codes "extern" → HeadIs w AnExternHead
  is_extractor : w ≡ codes "extractor" → HeadIs w ExtractorHead
  is_convert : w ≡ codes "convert" → HeadIs w ConvertHead
  is_over : is_passed w ≡ true → HeadIs w (PassedHead w)

head_by : (w : List ℕ) (b c d e f g h : Bool) (x : Head)
    → (b ≡ true → w ≡ codes "type") → (c ≡ true → w ≡ codes "decl") → (d ≡ true → w ≡ codes "rule") → (e ≡ true → w ≡ codes "extern") → (f ≡ true → w ≡ codes "extractor") → (g ≡ true → w ≡ codes "convert") → (h ≡ true → is_passed w ≡ true)
    → (if b then Some TypeHead else (if c then Some DeclHead else (if d then Some RuleHead else (if e then Some AnExternHead else (if f then Some ExtractorHead else (if g then Some ConvertHead else (if h then Some (PassedHead w) else None))))))) ≡ Some x → HeadIs w x
head_by w true c d e f g h x kb kc kd ke kf kg kh is = subst (HeadIs w) (let y : TypeHead ≡ x = cc in y) (is_type (kb refl))
head_by w false true d e f g h x kb kc kd ke kf kg kh is = subst (HeadIs w) (let y : DeclHead ≡ x = cc in y) (is_decl (kc refl))
head_by w false false true e f g h x kb kc kd ke kf kg kh is = subst (HeadIs w) (let y : RuleHead ≡ x = cc in y) (is_rule (kd refl))
head_by w false false false true f g h x kb kc kd ke kf kg kh is = subst (HeadIs w) (let y : AnExternHead ≡ x = cc in y) (is_extern (ke refl))
head_by w false false false false true g h x kb kc kd ke kf kg kh is = subst (HeadIs w) (let y : ExtractorHead ≡ x = cc in y) (is_extractor (kf refl))
head_by w false false false false false true h x kb kc kd ke kf kg kh is = subst (HeadIs w) (let y : ConvertHead ≡ x = cc in y) (is_convert (kg refl))
head_by w false false false false false false true x kb kc kd ke kf kg kh is = subst (HeadIs w) (let y : PassedHead w ≡ x = cc in y) (is_over (kh refl))
head_by w false false false false false false false x kb kc kd ke kf kg kh is = cc

word_is : (w v : List ℕ) → bytes_eq w v ≡ true → w ≡ v
word_is w v e = (bytes_eq-Decides w v).0 e

head_is : (w : List ℕ) (x : Head) → head_of w ≡ Some x → HeadIs w x
head_is w x e = head_by w (bytes_eq w (codes "type")) (bytes_eq w (codes "decl")) (bytes_eq w (codes "rule")) (bytes_eq w (codes "extern")) (bytes_eq w (codes "extractor")) (bytes_eq w (codes "convert")) (is_passed w) x
    (word_is w (codes "type")) (word_is w (codes "decl")) (word_is w (codes "rule")) (word_is w (codes "extern")) (word_is w (codes "extractor")) (word_is w (codes "convert")) (λ z. z) e

abbrev over : Head → Bool
over TypeHead = false
over DeclHead = false
over RuleHead = false
over AnExternHead = false
over ExtractorHead = false
over ConvertHead = false
over (PassedHead w) = true

head_over : (w : List ℕ) (x : Head) → head_of w ≡ Some x → is_passed w ≡ over x
head_over w x e = by x (head_is w x e)
  where
    by : (x : Head) → HeadIs w x → is_passed w ≡ over x
    by _ (is_type h) = ap is_passed h
    by _ (is_decl h) = ap is_passed h
    by _ (is_rule h) = ap is_passed h
    by _ (is_extern h) = ap is_passed h
    by _ (is_extractor h) = ap is_passed h
    by _ (is_convert h) = ap is_passed h
    by _ (is_over h) = h

-- a word that begins lists that are passed over begins nothing else
over_head : (w : List ℕ) → is_passed w ≡ true → head_of w ≡ Some (PassedHead w)
over_head w h = by (bytes_eq w (codes "type")) (bytes_eq w (codes "decl")) (bytes_eq w (codes "rule")) (bytes_eq w (codes "extern")) (bytes_eq w (codes "extractor")) (bytes_eq w (codes "convert")) (is_passed w) h
    (differs (codes "type") refl) (differs (codes "decl") refl) (differs (codes "rule") refl) (differs (codes "extern") refl) (differs (codes "extractor") refl) (differs (codes "convert") refl)
  where
    differs : (v : List ℕ) → is_passed v ≡ false → bytes_eq w v ≡ true → ⊥
    differs v f e = let x : is_passed w ≡ is_passed v = ap is_passed (word_is w v e) in let y : true ≡ false = sym h ∙ x ∙ f in cc

    by : (b c d e f g p : Bool) → p ≡ true → (b ≡ true → ⊥) → (c ≡ true → ⊥) → (d ≡ true → ⊥) → (e ≡ true → ⊥) → (f ≡ true → ⊥) → (g ≡ true → ⊥)
        → (if b then Some TypeHead else (if c then Some DeclHead else (if d then Some RuleHead else (if e then Some AnExternHead else (if f then Some ExtractorHead else (if g then Some ConvertHead else (if p then Some (PassedHead w) else None))))))) ≡ Some (PassedHead w)
    by true c d e f g p is kb kc kd ke kf kg = absurd (kb refl)
    by false true d e f g p is kb kc kd ke kf kg = absurd (kc refl)
    by false false true e f g p is kb kc kd ke kf kg = absurd (kd refl)
    by false false false true f g p is kb kc kd ke kf kg = absurd (ke refl)
    by false false false false true g p is kb kc kd ke kf kg = absurd (kf refl)
    by false false false false false true p is kb kc kd ke kf kg = absurd (kg refl)
    by false false false false false false true is kb kc kd ke kf kg = refl
    by false false false false false false false is kb kc kd ke kf kg = cc

data ExternIs (w : List ℕ) : ExternHead → Type 0 where
  is_constructor : w ≡ codes "constructor" → ExternIs w IsConstructor
  is_function : w ≡ codes "extractor" → ExternIs w IsExtractor
  is_const : w ≡ codes "const" → ExternIs w IsConst

extern_by : (w : List ℕ) (b c d : Bool) (x : ExternHead) → (b ≡ true → w ≡ codes "constructor") → (c ≡ true → w ≡ codes "extractor") → (d ≡ true → w ≡ codes "const")
    → (if b then Some IsConstructor else (if c then Some IsExtractor else (if d then Some IsConst else None))) ≡ Some x → ExternIs w x
extern_by w true c d x kb kc kd is = subst (ExternIs w) (let y : IsConstructor ≡ x = cc in y) (is_constructor (kb refl))
extern_by w false true d x kb kc kd is = subst (ExternIs w) (let y : IsExtractor ≡ x = cc in y) (is_function (kc refl))
extern_by w false false true x kb kc kd is = subst (ExternIs w) (let y : IsConst ≡ x = cc in y) (is_const (kd refl))
extern_by w false false false x kb kc kd is = cc

extern_is : (w : List ℕ) (x : ExternHead) → extern_head w ≡ Some x → ExternIs w x
extern_is w x e = extern_by w (bytes_eq w (codes "constructor")) (bytes_eq w (codes "extractor")) (bytes_eq w (codes "const")) x (word_is w (codes "constructor")) (word_is w (codes "extractor")) (word_is w (codes "const")) e

-- ---- the grammar as shapes

abbrev Behind : ℕ → ℕ → Head → Def → List Lexeme → List Lexeme → Type 0
Behind file at TypeHead = TypeForm file at
Behind file at DeclHead = DeclForm file at
Behind file at RuleHead = RuleForm file at
Behind file at AnExternHead = ExternForm file at
Behind file at ExtractorHead = ExtractorForm file at
Behind file at ConvertHead = ConvertForm file at
Behind file at (PassedHead w) = PassedForm file at w

abbrev Definition : ℕ → Def → List Lexeme → List Lexeme → Type 0
Definition file = Then OpenS (λ at. Then (WordS head_of) (Behind file at))

-- ---- from shapes

-- the end of a definition
at_end : {A : Type 0} (S : A → List Lexeme → List Lexeme → Type 0) (a : A) (ts end rest last : List Lexeme) (c : ℕ) → CloseS c end last → last ≡ rest → S a ts end → S a ts (Close c ∷ rest)
at_end S a ts end rest last c e q s = subst (S a ts) (e ∙ ap (λ z. Close c ∷ z) q) s

type_to : (file at h : ℕ) (head : List ℕ) (d : Def) (us rest : List Lexeme) → head ≡ codes "type" → TypeForm file at d us rest → DefS file d (Open at ∷ Word h head ∷ us) rest
type_to file at h head d us rest eh (name, vs, sn, (marks, ws, sm, (b, end, sb, (c, last, ec, (p, q))))) =
    subst (λ z. DefS file z (Open at ∷ Word h head ∷ us) rest) (sym p) (type_decl at h c head name marks b us vs ws rest eh sn sm (at_end BodyS b ws end rest last c ec q sb))

decl_to : (file at h : ℕ) (head : List ℕ) (d : Def) (us rest : List Lexeme) → head ≡ codes "decl" → DeclForm file at d us rest → DefS file d (Open at ∷ Word h head ∷ us) rest
decl_to file at h head d us rest eh (flags, ps, sp, (term, vs, (n, w, ew, hw), (o, xs, eo, (args, mid, ms, (ret, end, rs, (c, last, ec, (p, q))))))) =
    let x = decl_name_by (is_flag w) (names (kind w)) w term hw in
    let name : IsName term = subst IsName (sym x.2) x.1 in
    let flag : is_flag term ≡ false = ap is_flag x.2 ∙ x.0 in
    let tokens : ps ≡ Word n term ∷ Open o ∷ xs = ew ∙ ap (λ y. Word n y ∷ vs) (sym x.2) ∙ ap (λ y. Word n term ∷ y) eo in
    subst (λ y. DefS file y (Open at ∷ Word h head ∷ us) rest) (sym p)
    (decl at h n o c head term ret flags args us xs mid rest eh (subst (λ y. WordsFrom with_flag 4 no_flags flags us y) tokens sp) name flag ms (at_end NameS ret mid end rest last c ec q rs))

constructor_to : (file at h k : ℕ) (head w : List ℕ) (d : Def) (us rest : List Lexeme) → head ≡ codes "extern" → w ≡ codes "constructor" → ConstructorForm file at d us rest → DefS file d (Open at ∷ Word h head ∷ Word k w ∷ us) rest
constructor_to file at h k head w d us rest eh ew (term, mid, st, (func, end, sf, (c, last, ec, (p, q)))) =
    subst (λ y. DefS file y (Open at ∷ Word h head ∷ Word k w ∷ us) rest) (sym p) (extern_constructor at h k c head w term func us mid rest eh ew st (at_end NameS func mid end rest last c ec q sf))

name_is : (w : List ℕ) (ts rest : List Lexeme) → NameS w ts rest → (at : ℕ) × (ts ≡ Word at w ∷ rest) × IsName w
name_is _ _ _ (symbol at w ts h) = (at, refl, h)

fallible_to : (file at h k : ℕ) (head w : List ℕ) (d : Def) (us mid end rest : List Lexeme) (term func : List ℕ) → head ≡ codes "extern" → w ≡ codes "extractor" → NameS term us mid → NameS func mid end
    → Closed (the_extractor file at false term func) d end rest → DefS file d (Open at ∷ Word h head ∷ Word k w ∷ us) rest
fallible_to file at h k head w d us mid end rest term func eh ew st sf (c, last, ec, (p, q)) =
    subst (λ y. DefS file y (Open at ∷ Word h head ∷ Word k w ∷ us) rest) (sym p) (extern_extractor at h k c head w term func us mid rest eh ew st (at_end NameS func mid end rest last c ec q sf))

two_to : (file at h k : ℕ) (b : Bool) (head w : List ℕ) (d : Def) (us mid end rest : List Lexeme) (term func : List ℕ) → bytes_eq term (codes "infallible") ≡ b → head ≡ codes "extern" → w ≡ codes "extractor" → NameS term us mid → NameS func mid end
    → TwoNames file at b term func d end rest → DefS file d (Open at ∷ Word h head ∷ Word k w ∷ us) rest
two_to file at h k true head w d us mid end rest term func eb eh ew st sf (inl x) = fallible_to file at h k head w d us mid end rest term func eh ew st sf x
two_to file at h k true head w d us mid end rest term func eb eh ew st sf (inr (third, vs, s, (c, last, ec, (p, q)))) =
    let n = name_is term us mid st in
    subst (λ y. DefS file y (Open at ∷ Word h head ∷ Word k w ∷ us) rest) (sym p)
    (subst (λ y. DefS file (the_extractor file at true func third) (Open at ∷ Word h head ∷ Word k w ∷ y) rest) (sym n.1)
    (extern_infallible at h k n.0 c head w term func third mid end rest eh ew (word_is term (codes "infallible") eb) sf (at_end NameS third end vs rest last c ec q s)))
two_to file at h k false head w d us mid end rest term func eb eh ew st sf x = fallible_to file at h k head w d us mid end rest term func eh ew st sf x

constant_is : (k : WordKind) (name : List ℕ) → constant_of k ≡ Some name → k ≡ Dollar name
constant_is (Number n) name e = cc
constant_is Malformed name e = cc
constant_is (Truth b) name e = cc
constant_is (Dollar v) name e = let x : v ≡ name = cc in ap Dollar x
constant_is Underscore name e = cc
constant_is Plain name e = cc

const_to : (file at h k : ℕ) (head w : List ℕ) (d : Def) (us rest : List Lexeme) → head ≡ codes "extern" → w ≡ codes "const" → ConstForm file at d us rest → DefS file d (Open at ∷ Word h head ∷ Word k w ∷ us) rest
const_to file at h k head w d us rest eh ew (name, vs, (m, v, ev, hv), (ty, end, st, (c, last, ec, (p, q)))) =
    subst (λ y. DefS file y (Open at ∷ Word h head ∷ Word k w ∷ us) rest) (sym p)
    (subst (λ y. DefS file (tree.ExternConst name ty (record { file = file; offset = at })) (Open at ∷ Word h head ∷ Word k w ∷ y) rest) (sym ev)
    (extern_const at h k m c head w v name ty vs rest eh ew (constant_is (kind v) name hv) (at_end NameS ty vs end rest last c ec q st)))

extern_to : (file at h : ℕ) (head : List ℕ) (d : Def) (us rest : List Lexeme) → head ≡ codes "extern" → ExternForm file at d us rest → DefS file d (Open at ∷ Word h head ∷ us) rest
extern_to file at h head d us rest eh (x, vs, (k, w, ew, hw), s) = subst (λ z. DefS file d (Open at ∷ Word h head ∷ z) rest) (sym ew) (by x (extern_is w x hw) s)
  where
    by : (x : ExternHead) → ExternIs w x → ExternBehind file at x d vs rest → DefS file d (Open at ∷ Word h head ∷ Word k w ∷ vs) rest
    by _ (is_constructor e) s = constructor_to file at h k head w d vs rest eh e s
    by _ (is_function e) (term, mid, st, (func, end, sf, y)) = two_to file at h k (bytes_eq term (codes "infallible")) head w d vs mid end rest term func refl eh e st sf y
    by _ (is_const e) s = const_to file at h k head w d vs rest eh e s

extractor_to : (file at h : ℕ) (head : List ℕ) (d : Def) (us rest : List Lexeme) → head ≡ codes "extractor" → ExtractorForm file at d us rest → DefS file d (Open at ∷ Word h head ∷ us) rest
extractor_to file at h head d us rest eh (o, vs, eo, (term, ws, st, (params, mid, m, (t, end, sp, (c, last, ec, (p, q)))))) =
    subst (λ z. DefS file z (Open at ∷ Word h head ∷ us) rest) (sym p)
    (subst (λ z. DefS file (tree.Extractor term params t (record { file = file; offset = at })) (Open at ∷ Word h head ∷ z) rest) (sym eo)
    (extractor at h o c head term params t vs ws mid rest eh st m (at_end PatternS t mid end rest last c ec q sp)))

convert_to : (file at h : ℕ) (head : List ℕ) (d : Def) (us rest : List Lexeme) → head ≡ codes "convert" → ConvertForm file at d us rest → DefS file d (Open at ∷ Word h head ∷ us) rest
convert_to file at h head d us rest eh (from, vs, sf, (to, ws, st, (term, end, sn, (c, last, ec, (p, q))))) =
    subst (λ z. DefS file z (Open at ∷ Word h head ∷ us) rest) (sym p) (convert at h c head from to term us vs ws rest eh sf st (at_end NameS term ws end rest last c ec q sn))

rule_to : (file at h : ℕ) (head : List ℕ) (d : Def) (us rest : List Lexeme) → head ≡ codes "rule" → RuleForm file at d us rest → DefS file d (Open at ∷ Word h head ∷ us) rest
rule_to file at h head d us rest eh (name, us1, sn, (prio, us2, sp, (x, us3, (o, xs, eo, (term, ys, st, (args, mid, ms, (px, qx)))), (y, end, sy, (p, q))))) =
    let is_rule : d ≡ the_rule file at name prio (term, args) y = p ∙ ap (λ (z : List ℕ × List Pattern). the_rule file at name prio z y) px in
    subst (λ z. DefS file z (Open at ∷ Word h head ∷ us) rest) (sym is_rule)
    (rule at h o head term name prio args y.0 y.1 us us1 xs ys mid rest eh sn (subst (λ z. PrioS prio us1 z) eo sp) st ms (subst (λ z. TailS y z rest) (sym qx) (subst (λ z. TailS y us3 z) q sy)))

passed_to : (file at h : ℕ) (head : List ℕ) (d : Def) (us rest : List Lexeme) → is_passed head ≡ true → PassedForm file at head d us rest → DefS file d (Open at ∷ Word h head ∷ us) rest
passed_to file at h head d us rest eh (items, end, m, (p, q)) = subst (λ z. DefS file z (Open at ∷ Word h head ∷ us) rest) (sym p) (passed at h head items us rest eh (subst (Many AnyS items us) q m))

behind_to : (file at h : ℕ) (head : List ℕ) (x : Head) (d : Def) (us rest : List Lexeme) → HeadIs head x → Behind file at x d us rest → DefS file d (Open at ∷ Word h head ∷ us) rest
behind_to file at h head _ d us rest (is_type e) s = type_to file at h head d us rest e s
behind_to file at h head _ d us rest (is_decl e) s = decl_to file at h head d us rest e s
behind_to file at h head _ d us rest (is_rule e) s = rule_to file at h head d us rest e s
behind_to file at h head _ d us rest (is_extern e) s = extern_to file at h head d us rest e s
behind_to file at h head _ d us rest (is_extractor e) s = extractor_to file at h head d us rest e s
behind_to file at h head _ d us rest (is_convert e) s = convert_to file at h head d us rest e s
behind_to file at h head _ d us rest (is_over e) s = passed_to file at h head d us rest e s

definition_to : (file : ℕ) (d : Def) (ts rest : List Lexeme) → Definition file d ts rest → DefS file d ts rest
definition_to file d ts rest (at, us, e, (x, vs, (h, w, f, hw), s)) = subst (λ y. DefS file d y rest) (sym (e ∙ ap (λ y. Open at ∷ y) f)) (behind_to file at h w x d vs rest (head_is w x hw) s)

-- ---- to shapes

-- a definition after its head
headed : (file at h : ℕ) (head : List ℕ) (x : Head) (d : Def) (us rest : List Lexeme) → head_of head ≡ Some x → Behind file at x d us rest → Definition file d (Open at ∷ Word h head ∷ us) rest
headed file at h head x d us rest e s = (at, Word h head ∷ us, refl, (x, us, (h, head, refl, e), s))

-- an `extern` after its second word
second : (file at h k : ℕ) (head w : List ℕ) (x : ExternHead) (d : Def) (us rest : List Lexeme) → head ≡ codes "extern" → extern_head w ≡ Some x → ExternBehind file at x d us rest → Definition file d (Open at ∷ Word h head ∷ Word k w ∷ us) rest
second file at h k head w x d us rest e f s = headed file at h head AnExternHead d (Word k w ∷ us) rest (ap head_of e) (x, us, (k, w, refl, f), s)

-- two names and the end, whatever the first is
ended : (file at : ℕ) (b : Bool) (term func : List ℕ) (c : ℕ) (rest : List Lexeme) → TwoNames file at b term func (the_extractor file at false term func) (Close c ∷ rest) rest
ended file at true term func c rest = inl (c, rest, refl, (refl, refl))
ended file at false term func c rest = (c, rest, refl, (refl, refl))

third_name : (file at : ℕ) (b : Bool) (term func last : List ℕ) (c : ℕ) (mid rest : List Lexeme) → b ≡ true → NameS last mid (Close c ∷ rest) → TwoNames file at b term func (the_extractor file at true func last) mid rest
third_name file at true term func last c mid rest e s = inr (last, Close c ∷ rest, s, (c, rest, refl, (refl, refl)))
third_name file at false term func last c mid rest e s = cc

infallible_is : IsName (codes "infallible")
unfolding kind
infallible_is = refl

definition_from : (file : ℕ) (d : Def) (ts rest : List Lexeme) → DefS file d ts rest → Definition file d ts rest
definition_from file _ _ _ (type_decl at h c head name marks b ts us vs rest eh sn sm sb) = headed file at h head TypeHead _ ts rest (ap head_of eh) (name, us, sn, (marks, vs, sm, (b, Close c ∷ rest, sb, (c, rest, refl, (refl, refl)))))
definition_from file _ _ _ (decl at h n o c head term ret flags args ts us mid rest eh sp nm fl ms rs) = headed file at h head DeclHead _ ts rest (ap head_of eh) (
  flags,
  Word n term ∷ Open o ∷ us,
  sp,
  (term, Open o ∷ us, (n, term, refl, ap (λ b. if b then None else name_of term) fl ∙ name_some term nm), (o, us, refl, (args, mid, ms, (ret, Close c ∷ rest, rs, (c, rest, refl, (refl, refl)))))),
)
definition_from file _ _ _ (extern_constructor at h k c head w term func ts mid rest eh es st sf) = second file at h k head w IsConstructor _ ts rest eh (ap extern_head es) (term, mid, st, (func, Close c ∷ rest, sf, (c, rest, refl, (refl, refl))))
definition_from file _ _ _ (extern_extractor at h k c head w term func ts mid rest eh es st sf) =
    second file at h k head w IsExtractor _ ts rest eh (ap extern_head es) (term, mid, st, (func, Close c ∷ rest, sf, ended file at (bytes_eq term (codes "infallible")) term func c rest))
definition_from file _ _ _ (extern_infallible at h k i c head w third term func ts mid rest eh es et st sf) =
    second file at h k head w IsExtractor _ (Word i third ∷ ts) rest eh (ap extern_head es)
    (third, ts, symbol i third ts (subst IsName (sym et) infallible_is), (term, mid, st, third_name file at (bytes_eq third (codes "infallible")) third term func c mid rest (ap (λ z. bytes_eq z (codes "infallible")) et) sf))
definition_from file _ _ _ (extern_const at h k d c head w v name ty ts rest eh es ev st) = second file at h k head w IsConst _ (Word d v ∷ ts) rest eh (ap extern_head es) (name, ts, (d, v, refl, ap constant_of ev), (ty, Close c ∷ rest, st, (c, rest, refl, (refl, refl))))
definition_from file _ _ _ (extractor at h o c head term params p ts us mid rest eh st m sp) = headed file at h head ExtractorHead _ (Open o ∷ ts) rest (ap head_of eh) (o, ts, refl, (term, us, st, (params, mid, m, (p, Close c ∷ rest, sp, (c, rest, refl, (refl, refl))))))
definition_from file _ _ _ (convert at h c head from to term ts us vs rest eh sf st sn) = headed file at h head ConvertHead _ ts rest (ap head_of eh) (from, us, sf, (to, vs, st, (term, Close c ∷ rest, sn, (c, rest, refl, (refl, refl)))))
definition_from file _ _ _ (rule at h o head term name prio args iflets rhs ts us vs ws mid rest eh sn sp st ms sy) = headed file at h head RuleHead _ ts rest (ap head_of eh) (
  name,
  us,
  sn,
  (prio, Open o ∷ vs, sp, ((term, args), mid, (o, vs, refl, (term, ws, st, (args, mid, ms, (refl, refl)))), ((iflets, rhs), rest, sy, (refl, refl)))),
)
definition_from file _ _ _ (passed at h head items ts rest eh m) = headed file at h head (PassedHead head) _ ts rest (over_head head eh) (items, rest, m, (refl, refl))

-- ---- the law

-- the state after a head
abbrev Headed : Head → Nest → Type 0
Headed x q = q ≡ record { marks = if over x then Passed ∷ [] else Round ∷ []; last = Other }

law_behind : (n file at : ℕ) (x : Head) → Law (Headed x) (λ d. Inside []) Anything n (Behind file at x) (read_behind n file at x)
law_behind n file at TypeHead = law_states n (omega arith) (behind_inside (Round ∷ [])) (λ a q e. e) (law_type n file at)
law_behind n file at DeclHead = law_states n (omega arith) (behind_inside (Round ∷ [])) (λ a q e. e) (law_decl n file at)
law_behind n file at RuleHead = law_states n (omega arith) (behind_inside (Round ∷ [])) (λ a q e. e) (law_rule n file at)
law_behind n file at AnExternHead = law_states n (omega arith) (behind_inside (Round ∷ [])) (λ a q e. e) (law_extern n file at)
law_behind n file at ExtractorHead = law_states n (omega arith) (behind_inside (Round ∷ [])) (λ a q e. e) (law_extractor n file at)
law_behind n file at ConvertHead = law_states n (omega arith) (behind_inside (Round ∷ [])) (λ a q e. e) (law_convert n file at)
law_behind n file at (PassedHead w) = law_passed n file at w

pub law_def : (n file : ℕ) → Law (Inside []) (λ d. Inside []) Anything n (DefS file) (read_def n file)
unfolding read_def read_head
law_def n file = law_map (definition_to file) (definition_from file) (law_next _ _ (law_open (top_open (few_open 1 (omega arith)))) (λ at.
    law_next _ _ (law_word head_of (codes "decl", DeclHead, refl) (head_word_by head_of over (few_open 1 (omega arith)) head_over)) (law_behind n file at)))

pub def_some : (file : ℕ) (d : Def) (ts rest : List Lexeme) → DefS file d ts rest → Some_token ts
def_some file d ts rest s = let x = definition_from file d ts rest s in (Open x.0, x.1, x.2)
