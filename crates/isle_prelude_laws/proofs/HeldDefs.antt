-- Definitions that stand among others at some place, and what doesn't hang on places.
use Rattle.std.proofs.Common.{◌≡◌, List, [], ◌∷◌, refl, sym, ap, ap₂, ◌∙◌, subst, ⊎_elim}
use Rattle.std.specs.Prelude.{Contains}
use Rattle.std.specs.List.{IsDistinct, cons_option}
use Rattle.std.specs.Str.{bytes_eq}
use Rattle.isle_core.specs.declared.position.Pos.{Pos}
use Rattle.isle_core.proofs.Contained.{head_contained, tail_contained, contained_cases, none_contained}
use Rattle.isle_ast.specs.Positions.{place_of}
use Rattle.isle_ast.specs.Tree.{Def, TypeDecl, Decl, ExternConstructor, ExternExtractor, ExternConst, Extractor, Converter, Rule, Passed}
use Rattle.isle_declarations.specs.Heads.{heads_of, terms_of}
use Rattle.isle_declarations.specs.Signatures.{rule_defs, signatures}
use Rattle.isle_meta.specs.declared.tables.Tables.{Tables}
use Rattle.isle_terms.specs.Converters.{converter_of, converters}
use Rattle.isle_writing.specs.Erased.{placed, erased, all_erased}
use Rattle.isle_prelude_accepted.proofs.AtPlaces.{placed_again, declared_same, heads_same}
use Rattle.isle_prelude_laws.specs.RoundTrip.{opt_source, AreOptSource}
use Rattle.isle_prelude_laws.proofs.OptConverters.{opt_converts}
use Rattle.isle_prelude_laws.proofs.OptDefs.{heads_apart}

-- a definition stands among these, at a place that may be another
pub record IsHeld (defs : List Def) (d : Def) : Type 0 where
  pub at : Pos
  pub among : Contains defs (placed at d)

placed_twice : (at : Pos) (d : Def) → placed at (erased d) ≡ placed at d
placed_twice at (TypeDecl name is_extern is_nodebug body own) = refl
placed_twice at (Decl term pure multi partial recursive args ret own) = refl
placed_twice at (ExternConstructor term func own) = refl
placed_twice at (ExternExtractor term func infallible own) = refl
placed_twice at (ExternConst name ty own) = refl
placed_twice at (Extractor term params template own) = refl
placed_twice at (Converter from to term own) = refl
placed_twice at (Rule name prio term args iflets rhs own) = refl
placed_twice at (Passed head own) = refl

-- a definition that is another one but for its place
placed_back : (x y : Def) → erased x ≡ erased y → x ≡ placed (place_of x) y
placed_back x y h = sym (placed_again x) ∙ ap (placed (place_of x)) h ∙ placed_twice (place_of x) y

same_head : {X : Type 0} (x y : X) (xs ys : List X) → x ∷ xs ≡ y ∷ ys → x ≡ y
same_head x y xs ys e = cc

same_tail : {X : Type 0} (x y : X) (xs ys : List X) → x ∷ xs ≡ y ∷ ys → xs ≡ ys
same_tail x y xs ys e = cc

-- what stands among definitions stands among those that are the same but for their places
held_in : (xs ys : List Def) → all_erased xs ≡ all_erased ys → (d : Def) → Contains ys d → IsHeld xs d
held_in xs [] h d c = absurd (none_contained d c)
held_in [] (y ∷ ys) h d c = absurd cc
held_in (x ∷ xs) (y ∷ ys) h d c = ⊎_elim first (later (held_in xs ys (same_tail (erased x) (erased y) (all_erased xs) (all_erased ys) h) d)) (contained_cases y ys d c)
  where
    first : y ≡ d → IsHeld (x ∷ xs) d
    first here =
        let e : x ≡ placed (place_of x) d = placed_back x y (same_head (erased x) (erased y) (all_erased xs) (all_erased ys) h) ∙ ap (placed (place_of x)) here in
        record { at = place_of x; among = subst (Contains (x ∷ xs)) e (head_contained x xs) }

    later : (Contains ys d → IsHeld xs d) → Contains ys d → IsHeld (x ∷ xs) d
    later rest there = let k = rest there in record { at = k.at; among = tail_contained x xs (placed k.at d) k.among }

converter_same : (d : Def) → converter_of (erased d) ≡ converter_of d
converter_same (TypeDecl name is_extern is_nodebug body at) = refl
converter_same (Decl term pure multi partial recursive args ret at) = refl
converter_same (ExternConstructor term func at) = refl
converter_same (ExternExtractor term func infallible at) = refl
converter_same (ExternConst name ty at) = refl
converter_same (Extractor term params template at) = refl
converter_same (Converter from to term at) = refl
converter_same (Rule name prio term args iflets rhs at) = refl
converter_same (Passed head at) = refl

converters_same : (ds : List Def) → converters (all_erased ds) ≡ converters ds
converters_same [] = refl
converters_same (d ∷ ds) = ap₂ cons_option (converter_same d) (converters_same ds)

-- ---- an optimizer's definitions, at whatever places

module _ (t : Tables) (defs : List Def) (same : AreOptSource t defs) where
  pub held : (d : Def) → Contains (opt_source t) d → IsHeld defs d
  held d c = held_in defs (opt_source t) same d c

  -- nothing is converted
  pub held_converts : converters defs ≡ []
  held_converts = sym (converters_same defs) ∙ ap converters same ∙ converters_same (opt_source t) ∙ opt_converts t

  -- the heads of rules are apart if the names of declarations are
  pub held_heads : IsDistinct bytes_eq (terms_of (signatures defs)) → IsDistinct bytes_eq (heads_of (rule_defs defs))
  held_heads h =
      let names = sym (declared_same defs) ∙ ap (λ (ds : List Def). terms_of (signatures ds)) same ∙ declared_same (opt_source t) in
      let heads = sym (heads_same defs) ∙ ap (λ (ds : List Def). heads_of (rule_defs ds)) same ∙ heads_same (opt_source t) in
      subst (IsDistinct bytes_eq) (sym heads) (heads_apart t (subst (IsDistinct bytes_eq) names h))
