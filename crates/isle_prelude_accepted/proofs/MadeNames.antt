-- The terms that sound types make: no two have one name, and none has that of a declared term.
use Rattle.std.proofs.Common.{◌≡◌, ◌⊎◌, inl, inr, ℕ, List, [], ◌∷◌, map, Bool, true, false, cond, refl, sym, ap, ◌∙◌, subst, eqb→eq}
use Rattle.std.specs.Prelude.{IsTrue, ◌==◌, ◌&&◌}
use Rattle.std.specs.Bool.{passes}
use Rattle.std.specs.List.{AllByRecursion, list_all}
use Rattle.isle_printer.specs.Token.{is_word_byte}
use Rattle.isle_ast.specs.Tree.{Def, TypeDecl, Decl, ExternConstructor, ExternExtractor, ExternConst, Extractor, Converter, Rule, Passed}
use Rattle.isle_ast.specs.declared.tree.AstBody.{AstBody}
use Rattle.isle_ast.specs.declared.tree.AstBody.TheVariants.{Primitive, Enum, Struct}
use Rattle.isle_ast.specs.declared.tree.AstVariant.{AstVariant}
use Rattle.isle_declarations.specs.DeclaredTypes.{variant_term, made_by, made_terms}
use Rattle.isle_declarations.specs.Heads.{terms_of}
use Rattle.isle_declarations.specs.Signatures.{signatures}
use Rattle.isle_types.specs.Bodies.{variant_names}
use Rattle.isle_types.specs.TypeNames.{declared_names}
use Rattle.isle_prelude_accepted.proofs.Has.{Has, AreApart, has_either, has_map, has_mapped, apart_append}
use Rattle.isle_prelude_accepted.proofs.Simple.{IsSound, IsSoundBody}

-- ---- names with a dot

-- what stands before the first dot
abbrev before_dot : List ℕ → List ℕ
before_dot [] = []
before_dot (b ∷ bs) = cond (b == 46) [] (b ∷ before_dot bs)

-- what stands behind it
abbrev after_dot : List ℕ → List ℕ
after_dot [] = []
after_dot (b ∷ bs) = cond (b == 46) bs (after_dot bs)

-- a name of letters, digits and `_`
abbrev IsWord : List ℕ → Type 0
IsWord name = IsTrue (list_all is_word_byte name)

no_dot : (b : ℕ) (bs : List ℕ) → IsWord (b ∷ bs) → (b == 46) ≡ false
no_dot b bs h = by (b == 46) refl h
  where
    by : (c : Bool) → (b == 46) ≡ c → (is_word_byte b && list_all is_word_byte bs) ≡ true → c ≡ false
    by true e k =
        absurd (let same : b ≡ 46 = eqb→eq b 46 (passes (b == 46) e) in let bad : (is_word_byte 46 && list_all is_word_byte bs) ≡ true = ap (λ x. is_word_byte x && list_all is_word_byte bs) (sym same) ∙ k in cc)
    by false e k = refl

rest_word : (b : ℕ) (bs : List ℕ) → IsWord (b ∷ bs) → IsWord bs
rest_word b bs h = by (is_word_byte b) h
  where
    by : (c : Bool) → (c && list_all is_word_byte bs) ≡ true → list_all is_word_byte bs ≡ true
    by true k = k
    by false k = absurd cc

first_part : (name v : List ℕ) → IsWord name → before_dot (variant_term name v) ≡ name
first_part [] v h = refl
first_part (b ∷ bs) v h = ap (λ c. cond c [] (b ∷ before_dot (variant_term bs v))) (no_dot b bs h) ∙ ap (λ xs. b ∷ xs) (first_part bs v (rest_word b bs h))

last_part : (name v : List ℕ) → IsWord name → after_dot (variant_term name v) ≡ v
last_part [] v h = refl
last_part (b ∷ bs) v h = ap (λ c. cond c (variant_term bs v) (after_dot (variant_term bs v))) (no_dot b bs h) ∙ last_part bs v (rest_word b bs h)

dotted : (name v : List ℕ) → IsWord (variant_term name v) → ⊥
dotted [] v h = by (list_all is_word_byte v) h
  where
    by : (c : Bool) → (false && c) ≡ true → ⊥
    by true k = absurd cc
    by false k = absurd cc
dotted (b ∷ bs) v h = dotted bs v (rest_word b (variant_term bs v) h)

-- ---- made terms

-- a made term: of a declared type
abbrev IsMadeOf : List Def → List ℕ → Type 0
IsMadeOf ds z = (name : List ℕ) × (v : List ℕ) × Has (declared_names ds) name × IsWord name × (z ≡ variant_term name v)

body_made : (E : List Def) (name : List ℕ) (body : AstBody) (z : List ℕ) → IsSoundBody E name body → Has (made_by name body) z
    → (v : List ℕ) × (z ≡ variant_term name v)
body_made E name (Primitive rust) z s i = absurd i
body_made E name (Enum vs) z s i = let r = has_mapped (λ (v : AstVariant). variant_term name v.name) vs z i in (r.0.name, sym r.2)
body_made E name (Struct fields) z s i = absurd s

later : (ds : List Def) (name z : List ℕ) → IsMadeOf ds z
    → (n : List ℕ) × (v : List ℕ) × ((name ≡ n) ⊎ Has (declared_names ds) n) × IsWord n × (z ≡ variant_term n v)
later ds name z m = (m.0, m.1, inr m.2, m.3, m.4)

made_from : (E ds : List Def) → AllByRecursion (IsSound E) ds → (z : List ℕ) → Has (made_terms ds) z → IsMadeOf ds z
made_from E [] s z i = absurd i
made_from E (TypeDecl name x n body at ∷ ds) s z i = by (made_from E ds s.1 z) (has_either (made_by name body) (made_terms ds) z i)
  where
    by : (Has (made_terms ds) z → IsMadeOf ds z) → Has (made_by name body) z ⊎ Has (made_terms ds) z → IsMadeOf (TypeDecl name x n body at ∷ ds) z
    by rest (inl j) = let m = body_made E name body z s.0.1 j in (name, m.0, inl refl, s.0.0.name.identifier.word, m.1)
    by rest (inr j) = later ds name z (rest j)
made_from E (Decl term pure multi partial recursive args ret at ∷ ds) s z i = made_from E ds s.1 z i
made_from E (ExternConstructor term func at ∷ ds) s z i = made_from E ds s.1 z i
made_from E (ExternExtractor term func infallible at ∷ ds) s z i = made_from E ds s.1 z i
made_from E (ExternConst name ty at ∷ ds) s z i = made_from E ds s.1 z i
made_from E (Extractor term params template at ∷ ds) s z i = made_from E ds s.1 z i
made_from E (Converter from to term at ∷ ds) s z i = made_from E ds s.1 z i
made_from E (Rule name prio term args iflets rhs at ∷ ds) s z i = made_from E ds s.1 z i
made_from E (Passed head at ∷ ds) s z i = made_from E ds s.1 z i

variants_apart : (name : List ℕ) (vs : List AstVariant) → IsWord name → AreApart (variant_names vs)
    → AreApart (map (λ (v : AstVariant). variant_term name v.name) vs)
variants_apart name [] w h = tt
variants_apart name (v ∷ vs) w h = (other, variants_apart name vs w h.1)
  where
    other : Has (map (λ (x : AstVariant). variant_term name x.name) vs) (variant_term name v.name) → ⊥
    other i =
        let r = has_mapped (λ (x : AstVariant). variant_term name x.name) vs (variant_term name v.name) i in
        let same : r.0.name ≡ v.name = sym (last_part name r.0.name w) ∙ ap after_dot r.2 ∙ last_part name v.name w in
        h.0 (subst (Has (variant_names vs)) same (has_map (λ (x : AstVariant). x.name) vs r.0 r.1))

body_apart : (E : List Def) (name : List ℕ) (body : AstBody) → IsWord name → IsSoundBody E name body → AreApart (made_by name body)
body_apart E name (Primitive rust) w s = tt
body_apart E name (Enum vs) w s = variants_apart name vs w s.1
body_apart E name (Struct fields) w s = absurd s

-- no two made terms have one name
pub made_apart : (E ds : List Def) → AllByRecursion (IsSound E) ds → AreApart (declared_names ds) → AreApart (made_terms ds)
made_apart E [] s h = tt
made_apart E (TypeDecl name x n body at ∷ ds) s h =
    apart_append (made_by name body) (made_terms ds) (body_apart E name body s.0.0.name.identifier.word s.0.1) (made_apart E ds s.1 h.1) apart
  where
    apart : (z : List ℕ) → Has (made_by name body) z → Has (made_terms ds) z → ⊥
    apart z i j =
        let own = body_made E name body z s.0.1 i in
        let other = made_from E ds s.1 z j in
        let same : other.0 ≡ name =
        sym (first_part other.0 other.1 other.3) ∙ ap before_dot (sym other.4 ∙ own.1) ∙ first_part name own.0 s.0.0.name.identifier.word in
        h.0 (subst (Has (declared_names ds)) same other.2)
made_apart E (Decl term pure multi partial recursive args ret at ∷ ds) s h = made_apart E ds s.1 h
made_apart E (ExternConstructor term func at ∷ ds) s h = made_apart E ds s.1 h
made_apart E (ExternExtractor term func infallible at ∷ ds) s h = made_apart E ds s.1 h
made_apart E (ExternConst name ty at ∷ ds) s h = made_apart E ds s.1 h
made_apart E (Extractor term params template at ∷ ds) s h = made_apart E ds s.1 h
made_apart E (Converter from to term at ∷ ds) s h = made_apart E ds s.1 h
made_apart E (Rule name prio term args iflets rhs at ∷ ds) s h = made_apart E ds s.1 h
made_apart E (Passed head at ∷ ds) s h = made_apart E ds s.1 h

-- a declared term is named by a word
word_declared : (E ds : List Def) → AllByRecursion (IsSound E) ds → (z : List ℕ) → Has (terms_of (signatures ds)) z → IsWord z
word_declared E [] s z i = absurd i
word_declared E (Decl term pure multi partial recursive args ret at ∷ ds) s z i = by (word_declared E ds s.1 z) i
  where
    by : (Has (terms_of (signatures ds)) z → IsWord z) → (term ≡ z) ⊎ Has (terms_of (signatures ds)) z → IsWord z
    by rest (inl e) = subst IsWord e s.0.1.named
    by rest (inr j) = rest j
word_declared E (TypeDecl name x n body at ∷ ds) s z i = word_declared E ds s.1 z i
word_declared E (ExternConstructor term func at ∷ ds) s z i = word_declared E ds s.1 z i
word_declared E (ExternExtractor term func infallible at ∷ ds) s z i = word_declared E ds s.1 z i
word_declared E (ExternConst name ty at ∷ ds) s z i = word_declared E ds s.1 z i
word_declared E (Extractor term params template at ∷ ds) s z i = word_declared E ds s.1 z i
word_declared E (Converter from to term at ∷ ds) s z i = word_declared E ds s.1 z i
word_declared E (Rule name prio term args iflets rhs at ∷ ds) s z i = word_declared E ds s.1 z i
word_declared E (Passed head at ∷ ds) s z i = word_declared E ds s.1 z i

-- no made term has the name of a declared one
pub made_undeclared : (E ds : List Def) → AllByRecursion (IsSound E) ds → (z : List ℕ) → Has (made_terms ds) z → Has (terms_of (signatures ds)) z → ⊥
made_undeclared E ds s z i j = let m = made_from E ds s z i in dotted m.0 m.1 (subst IsWord m.4 (word_declared E ds s z j))
