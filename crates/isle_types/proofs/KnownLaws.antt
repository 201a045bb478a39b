-- The first type of each name, after a definition more.
use Rattle.std.proofs.Common.{◌≡◌, ℕ, Bool, true, false, cond, List, [], ◌∷◌, ◌++◌, Option, Some, None, refl, sym, ap, ◌∙◌, subst, ◌+◌, ◌<◌, length, get_or, arith}
use Rattle.std.specs.Prelude.{map, option_map, is_some, find, ◌||◌, drop, nat_lt}
use Rattle.std.specs.Option.{option_map_or}
use Rattle.std.specs.List.{cons_option, list_any}
use Rattle.std.specs.Str.{bytes_eq}
use Rattle.std.proofs.Math.ListN.{get_or-append}
use Rattle.std.proofs.Math.Seq.{get_or-append_seam}
use Rattle.std.proofs.lemmas.Slice.Eq.{bytes_eq-Decides}
use Rattle.std.proofs.lemmas.Bool.Decides.{nat_tests}
use Rattle.std.proofs.lemmas.List.{drop_more, length-append}
use Rattle.isle_ast.specs.Tree.{Def}
use Rattle.isle_ast.specs.declared.tree.AstBody.{AstBody}
use Rattle.isle_declarations.specs.Symbols.{index_of, added}
use Rattle.isle_declarations.specs.Repeats.{repeats}
use Rattle.isle_declarations.proofs.SymbolLaws.{index_of_more, index_of_new, index_below}
use Rattle.isle_core.proofs.OptionLaws.{some_same}
use Rattle.isle_types.specs.declared.known_types.KnownTypes.{KnownTypes}
use Rattle.isle_declarations.specs.DeclaredTypes.{DeclaredType, type_of, types}
use Rattle.isle_types.specs.Fault.{or_later}
use Rattle.isle_types.specs.TypeNames.{declared_as, is_primitive}
use Rattle.isle_types.specs.Gathered.{AreKnown, FindsFirsts, primitive_at}

-- what a definition declares by a name
abbrev pub declares : Option DeclaredType → List ℕ → Option AstBody
declares None name = None
declares (Some t) name = cond (bytes_eq t.name name) (Some t.body) None

alone_if : (b : Bool) (t : DeclaredType) → option_map (λ (t : DeclaredType). t.body) (cond b (Some t) None) ≡ cond b (Some t.body) None
alone_if true t = refl
alone_if false t = refl

alone : (o : Option DeclaredType) (name : List ℕ) → option_map (λ (t : DeclaredType). t.body) (find (λ (t : DeclaredType). bytes_eq t.name name) (cons_option o [])) ≡ declares o name
alone None name = refl
alone (Some t) name = alone_if (bytes_eq t.name name) t

first_if : (b : Bool) (t : DeclaredType) (more rest : Option DeclaredType) (last : Option AstBody) → option_map (λ (t : DeclaredType). t.body) more ≡ or_later (option_map (λ (t : DeclaredType). t.body) rest) last
    → option_map (λ (t : DeclaredType). t.body) (cond b (Some t) more) ≡ or_later (option_map (λ (t : DeclaredType). t.body) (cond b (Some t) rest)) last
first_if true t more rest last h = refl
first_if false t more rest last h = h

first_of : (o : Option DeclaredType) (more rest : List DeclaredType) (name : List ℕ) (last : Option AstBody)
    → option_map (λ (t : DeclaredType). t.body) (find (λ (t : DeclaredType). bytes_eq t.name name) more) ≡ or_later (option_map (λ (t : DeclaredType). t.body) (find (λ (t : DeclaredType). bytes_eq t.name name) rest)) last
    → option_map (λ (t : DeclaredType). t.body) (find (λ (t : DeclaredType). bytes_eq t.name name) (cons_option o more)) ≡ or_later (option_map (λ (t : DeclaredType). t.body) (find (λ (t : DeclaredType). bytes_eq t.name name) (cons_option o rest))) last
first_of None more rest name last h = h
first_of (Some t) more rest name last h = first_if (bytes_eq t.name name) t (find (λ (t : DeclaredType). bytes_eq t.name name) more) (find (λ (t : DeclaredType). bytes_eq t.name name) rest) last h

-- the first type of a name, with one definition more
pub declared_more : (ds : List Def) (d : Def) (name : List ℕ) → declared_as (ds ++ d ∷ []) name ≡ or_later (declared_as ds name) (declares (type_of d) name)
declared_more [] d name = alone (type_of d) name
declared_more (x ∷ ds) d name = first_of (type_of x) (types (ds ++ d ∷ [])) (types ds) name (declares (type_of d) name) (declared_more ds d name)

-- ---- those that are gathered

later_none : (o : Option AstBody) → or_later o None ≡ o
later_none None = refl
later_none (Some b) = refl

-- a definition that declares no type
pub known_other : (ds : List Def) (d : Def) (known : KnownTypes) → type_of d ≡ None → AreKnown ds known → AreKnown (ds ++ d ∷ []) known
unfolding AreKnown
known_other ds d known none h = record {
  finds = λ name.
      h.finds name
      ∙ ap (option_map is_primitive) (sym (declared_more ds d name ∙ ap (λ o. or_later (declared_as ds name) (declares o name)) none ∙ later_none (declared_as ds name)));
  long = h.long;
}

again_at : (o : Option AstBody) (b : Bool) (body : AstBody) → is_some o ≡ true → or_later o (cond b (Some body) None) ≡ o
again_at (Some x) b body e = refl
again_at None b body e = absurd cc

again_if : (ds : List Def) (t : DeclaredType) (name : List ℕ) (b : Bool) → bytes_eq t.name name ≡ b → is_some (declared_as ds t.name) ≡ true → or_later (declared_as ds name) (cond b (Some t.body) None) ≡ declared_as ds name
again_if ds t name false e s = later_none (declared_as ds name)
again_if ds t name true e s = again_at (declared_as ds name) true t.body (subst (λ n. is_some (declared_as ds n) ≡ true) ((bytes_eq-Decides t.name name).0 e) s)

primitive_there : (values : List Bool) (place : Option ℕ) (o : Option AstBody) → option_map (λ i. get_or values i false) place ≡ option_map is_primitive o → is_some place ≡ true → is_some o ≡ true
primitive_there values (Some i) (Some b) e s = refl
primitive_there values (Some i) None e s = absurd cc
primitive_there values None o e s = absurd cc

-- one that declares a type of a name that is there
pub known_again : (ds : List Def) (d : Def) (t : DeclaredType) (known new : KnownTypes) → Some t ≡ type_of d → is_some (index_of known.names t.name) ≡ true
    → new.names ≡ added known.names t.name → new.primitive.items ≡ known.primitive.items → AreKnown ds known → AreKnown (ds ++ d ∷ []) new
unfolding AreKnown
known_again ds d t known new is there names values h =
    let stays : new.names ≡ known.names = names ∙ ap (λ b. cond b known.names (known.names ++ t.name ∷ [])) there in
    record {
      finds = λ name.
          ap (λ ns. option_map (λ i. get_or new.primitive.items i false) (index_of ns name)) stays
          ∙ ap (λ vs. option_map (λ i. get_or vs i false) (index_of known.names name)) values
          ∙ h.finds name
          ∙ ap (option_map is_primitive) (sym (declared_more ds d name ∙ ap (λ o. or_later (declared_as ds name) (declares o name)) (sym is)
          ∙ again_if ds t name (bytes_eq t.name name) refl (primitive_there known.primitive.items (index_of known.names t.name) (declared_as ds t.name) (h.finds t.name) there)));
      long = ap length values ∙ h.long ∙ ap length (sym stays);
    }

none_there : (values : List Bool) (place : Option ℕ) (o : Option AstBody) → option_map (λ i. get_or values i false) place ≡ option_map is_primitive o → place ≡ None → o ≡ None
none_there values place None e n = refl
none_there values None (Some b) e n = absurd cc
none_there values (Some i) (Some b) e n = absurd cc

new_if : (ds : List Def) (t : DeclaredType) (name : List ℕ) (b : Bool) → bytes_eq t.name name ≡ b → declared_as ds t.name ≡ None
    → cond b (Some (is_primitive t.body)) (option_map is_primitive (declared_as ds name)) ≡ option_map is_primitive (or_later (declared_as ds name) (cond b (Some t.body) None))
new_if ds t name false e none = ap (option_map is_primitive) (sym (later_none (declared_as ds name)))
new_if ds t name true e none = ap (λ o. option_map is_primitive (or_later o (Some t.body))) (sym none ∙ ap (declared_as ds) ((bytes_eq-Decides t.name name).0 e))

not_there : (o : Option ℕ) → is_some o ≡ false → o ≡ None
not_there None e = refl
not_there (Some i) e = absurd cc

-- what was gathered at a place stays there
value_stays : (names : List (List ℕ)) (values : List Bool) (value : Bool) (name : List ℕ) (place : Option ℕ) → length values ≡ length names → index_of names name ≡ place
    → option_map (λ i. get_or (values ++ value ∷ []) i false) place ≡ option_map (λ i. get_or values i false) place
value_stays names values value name None long e = refl
value_stays names values value name (Some i) long e =
    let lt : i < length names = index_below names name i e in
    ap Some (get_or-append values (value ∷ []) false i (subst (λ n. i < n) (sym long) lt))

value_at : (names : List (List ℕ)) (values : List Bool) (value : Bool) (name : List ℕ) (b : Bool) → length values ≡ length names
    → option_map (λ i. get_or (values ++ value ∷ []) i false) (cond b (Some (length names)) (index_of names name)) ≡ cond b (Some value) (option_map (λ i. get_or values i false) (index_of names name))
value_at names values value name true long = ap Some (ap (λ n. get_or (values ++ value ∷ []) n false) (sym long) ∙ get_or-append_seam values value [] false)
value_at names values value name false long = value_stays names values value name (index_of names name) long refl

-- one that declares the first type of its name
pub known_new : (ds : List Def) (d : Def) (t : DeclaredType) (known new : KnownTypes) (value : Bool) → Some t ≡ type_of d → value ≡ is_primitive t.body → is_some (index_of known.names t.name) ≡ false
    → new.names ≡ added known.names t.name → new.primitive.items ≡ known.primitive.items ++ value ∷ [] → AreKnown ds known → AreKnown (ds ++ d ∷ []) new
unfolding AreKnown
known_new ds d t known new value is valued absent names values h =
    let longer : new.names ≡ known.names ++ t.name ∷ [] = names ∙ ap (λ b. cond b known.names (known.names ++ t.name ∷ [])) absent in
    let nowhere : index_of known.names t.name ≡ None = not_there (index_of known.names t.name) absent in
    record {
      finds = λ name.
          ap (λ ns. option_map (λ i. get_or new.primitive.items i false) (index_of ns name)) longer
          ∙ ap (λ vs. option_map (λ i. get_or vs i false) (index_of (known.names ++ t.name ∷ []) name)) values
          ∙ ap (option_map (λ i. get_or (known.primitive.items ++ value ∷ []) i false)) (index_of_more known.names t.name name nowhere)
          ∙ value_at known.names known.primitive.items value name (bytes_eq t.name name) h.long
          ∙ ap (λ (v : Bool). cond (bytes_eq t.name name) (Some v) (primitive_at known name)) valued
          ∙ ap (λ o. cond (bytes_eq t.name name) (Some (is_primitive t.body)) o) (h.finds name)
          ∙ new_if ds t name (bytes_eq t.name name) refl (none_there known.primitive.items (index_of known.names t.name) (declared_as ds t.name) (h.finds t.name) nowhere)
          ∙ ap (option_map is_primitive) (sym (declared_more ds d name ∙ ap (λ o. or_later (declared_as ds name) (declares o name)) (sym is)));
      long = ap length values ∙ length-append known.primitive.items (value ∷ []) ∙ ap (λ (n : ℕ). n + 1) h.long ∙ sym (length-append known.names (t.name ∷ [])) ∙ ap length (sym longer);
    }

-- nothing is gathered of no definition
pub nothing_known : (known : KnownTypes) → known.names ≡ [] → known.primitive.items ≡ [] → AreKnown [] known
unfolding AreKnown
nothing_known known names values = record {
  finds = λ name. ap (λ ns. option_map (λ i. get_or known.primitive.items i false) (index_of ns name)) names;
  long = ap length values ∙ ap length (sym names);
}

some_if : (values : List Bool) (place : Option ℕ) (o : Option AstBody) → option_map (λ i. get_or values i false) place ≡ option_map is_primitive o → is_some place ≡ is_some o
some_if values None None e = refl
some_if values None (Some b) e = absurd cc
some_if values (Some i) None e = absurd cc
some_if values (Some i) (Some b) e = refl

-- a name was gathered if a type is declared by it
pub type_known : (ds : List Def) (known : KnownTypes) (name : List ℕ) → AreKnown ds known → is_some (index_of known.names name) ≡ is_some (declared_as ds name)
unfolding AreKnown
type_known ds known name h = some_if known.primitive.items (index_of known.names name) (declared_as ds name) (h.finds name)

primitive_if : (values : List Bool) (place : Option ℕ) (o : Option AstBody) → option_map (λ i. get_or values i false) place ≡ option_map is_primitive o → option_map_or (λ i. get_or values i false) place false ≡ option_map_or is_primitive o false
primitive_if values None None e = refl
primitive_if values None (Some b) e = absurd cc
primitive_if values (Some i) None e = absurd cc
primitive_if values (Some i) (Some b) e = cc

-- it was noted as primitive if that type is
pub primitive_known : (ds : List Def) (known : KnownTypes) (name : List ℕ) → AreKnown ds known → option_map_or (λ i. get_or known.primitive.items i false) (index_of known.names name) false ≡ option_map_or is_primitive (declared_as ds name) false
unfolding AreKnown
primitive_known ds known name h = primitive_if known.primitive.items (index_of known.names name) (declared_as ds name) (h.finds name)

met_if : (names : List (List ℕ)) (name : List ℕ) (place : ℕ) (before : Option ℕ) → index_of names name ≡ before → index_of (cond (is_some before) names (names ++ name ∷ [])) name ≡ Some place
    → nat_lt place (length names) ≡ is_some before
met_if names name place None e h =
    let same : place ≡ length names = some_same place (length names) (sym h ∙ index_of_new names name e) in
    grind (arith, nat_tests, same)
met_if names name place (Some k) e h =
    let lt : place < length names = index_below names name place h in
    grind (arith, nat_tests, lt)

-- a name has an earlier place than the next one if it was met before
pub met_before : (names : List (List ℕ)) (name : List ℕ) (place : ℕ) → index_of (added names name) name ≡ Some place → nat_lt place (length names) ≡ is_some (index_of names name)
met_before names name place h = met_if names name place (index_of names name) refl h

-- of fewer than two none has an earlier one's name
pub few_again : {A : Type 0} (name_of : A → List ℕ) (xs : List A) → length xs < 2 → repeats (map name_of xs) ≡ false
few_again name_of [] few = refl
few_again name_of (x ∷ []) few = refl
few_again name_of (x ∷ y ∷ xs) few = absurd (omega (arith, few))

-- one more of which a test fails
pub any_more : {X : Type 0} (test : X → Bool) (xs : List X) (i : ℕ) (x d : X) → i < length xs → x ≡ get_or xs i d → test x ≡ false → list_any test (drop i xs) ≡ list_any test (drop (i + 1) xs)
any_more test xs i x d lt is fails = ap (list_any test) (drop_more xs i d lt ∙ ap (λ y. y ∷ drop (i + 1) xs) (sym is)) ∙ ap (λ (b : Bool). b || list_any test (drop (i + 1) xs)) fails
