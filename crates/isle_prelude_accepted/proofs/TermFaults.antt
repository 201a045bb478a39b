-- Simple definitions have no fault in declarations, functions, extractors' heads and rules' heads.
use Rattle.std.proofs.Common.{◌≡◌, ℕ, Bool, true, false, List, [], ◌∷◌, ◌++◌, length, Option, Some, None, refl, sym, ap, ap₂, ◌∙◌, subst}
use Rattle.std.specs.Prelude.{is_some, not, ◌||◌, ◌&&◌, ◌==◌, option_map}
use Rattle.std.specs.List.{AllByRecursion, list_all}
use Rattle.std.proofs.lemmas.Bool.{or_from, eq-eqb}
use Rattle.isle_ast.specs.Tree.{Def, TypeDecl, Decl, ExternConstructor, ExternExtractor, ExternConst, Extractor, Converter, Rule, Passed, Pattern, Expr, IfLet}
use Rattle.isle_core.specs.declared.position.Pos.{Pos}
use Rattle.isle_declarations.specs.DeclaredTypes.{made_terms}
use Rattle.isle_declarations.specs.Heads.{terms_of, extern_terms, extractor_terms}
use Rattle.isle_declarations.specs.Repeats.{repeats}
use Rattle.isle_declarations.specs.Signatures.{Signature, Extern, ExtractorDef, ByFunction, ByTemplate, signature_of, extern_of, extractor_of, signatures}
use Rattle.isle_declarations.specs.Signatures.{externs, extractors, func_named}
use Rattle.isle_declarations.specs.Symbols.{index_of}
use Rattle.isle_types.specs.declared.row.Row.{Row}
use Rattle.isle_types.specs.TypeRows.{on}
use Rattle.isle_terms.specs.TypeNames.{type_named}
use Rattle.isle_terms.specs.Whole.{whole_of, declared}
use Rattle.isle_sema.specs.Breaks.{breaks}
use Rattle.isle_sema.specs.Fault.{OfTerms, rows_of, broken_in, fault_in}
use Rattle.isle_writing.specs.Erased.{all_erased}
use Rattle.isle_prelude_accepted.proofs.Has.{Has, AreApart, has_map, has_mapped, has_found, no_place_of, none_repeat, found_none}
use Rattle.isle_prelude_accepted.proofs.AtPlaces.{externs_same, made_same, declared_same, taken_same}
use Rattle.isle_prelude_accepted.proofs.Simple.{AreSimple, IsSound}
use Rattle.isle_prelude_accepted.proofs.Callees.{IsKnown, known_type, known_types, declaration_there, signature_at, declared_found}
use Rattle.isle_prelude_accepted.proofs.Splits.{none_broken, none_in, has_middle, new_among}
use Rattle.isle_prelude_accepted.proofs.TypeFaults.{le_true, sound_at}

all_some : (defs : List Def) (names : List (List ℕ)) → AllByRecursion (IsKnown defs) names → list_all (λ (n : List ℕ). is_some (type_named defs n)) names ≡ true
all_some defs [] h = refl
all_some defs (name ∷ names) h = ap (λ o. is_some o && list_all (λ (n : List ℕ). is_some (type_named defs n)) names) h.0.1 ∙ all_some defs names h.1

module _ (defs : List Def) (h : AreSimple (all_erased defs)) where
  -- the rows of the stage that a definition breaks
  abbrev Unbroken : List Def → Def → Type 0
  Unbroken before d = broken_in OfTerms (record { whole = whole_of defs; before = before }) d ≡ None

  all_rows : (before : List Def) (d : Def)
      → AllByRecursion (λ (r : Row). breaks r (record { whole = whole_of defs; before = before }) d ≡ false) (rows_of OfTerms) → Unbroken before d
  all_rows before d k = none_broken (λ (r : Row). breaks r (record { whole = whole_of defs; before = before }) d) (rows_of OfTerms) k

  -- a name that definitions declare is found
  declared_by_name : (term : List ℕ) → Has (terms_of (signatures (all_erased defs))) term → (s : Signature) × (declared (whole_of defs) term ≡ Some s)
  declared_by_name term i =
      let r = has_mapped (λ (x : Signature). x.term) (signatures defs) term (subst (λ names. Has names term) (declared_same defs) i) in
      (r.0, ap (declared (whole_of defs)) (sym r.2) ∙ declared_found defs h r.0 r.1)

  declaration_unbroken : (before after : List Def) (term : List ℕ) (pure multi partial recursive : Bool) (args : List (List ℕ)) (ret : List ℕ) (at : Pos)
      → defs ≡ before ++ Decl term pure multi partial recursive args ret at ∷ after → Unbroken before (Decl term pure multi partial recursive args ret at)
  declaration_unbroken before after term pure multi partial recursive args ret at e =
      let d = Decl term pure multi partial recursive args ret at in
      let x = signature_at defs h term pure multi partial recursive args ret at in
      let s : IsSound (all_erased defs) d = sound_at defs h before d after e in
      let once : AreApart (terms_of (signatures (before ++ d ∷ after))) =
      subst (λ ds. AreApart (terms_of (signatures ds))) e (subst AreApart (declared_same defs) h.declared) in
      let own : Has (terms_of (signatures defs)) term =
      has_map (λ (y : Signature). y.term) (signatures defs) x (has_found signature_of defs d x (subst (λ ds. Has ds d) (sym e) (has_middle before d after)) refl) in
      let new : index_of (terms_of (signatures before)) term ≡ None =
      no_place_of (terms_of (signatures before)) term (new_among signature_of (λ (y : Signature). y.term) before d after x refl once) in
      let unmade : index_of (made_terms defs) term ≡ None =
      no_place_of (made_terms defs) term
      (λ i. h.unmade term (subst (λ names. Has names term) (sym (made_same defs)) i) (subst (λ names. Has names term) (sym (declared_same defs)) own)) in
      let ret_known = known_type defs h ret s.1.gives in
      let types : (is_some (type_named defs ret) && list_all (λ (n : List ℕ). is_some (type_named defs n)) args) ≡ true =
      ap (λ o. is_some o && list_all (λ (n : List ℕ). is_some (type_named defs n)) args) ret_known.1 ∙ all_some defs args (known_types defs h args s.1.known) in
      all_rows before d (
        ap₂ (λ a b. is_some a || is_some b) new unmade,
        (ap not types, (ap not (le_true (length args) 256 s.1.few), (once_or_partial multi partial s.0, (refl, (refl, (refl, (refl, (refl, (refl, tt))))))))),
      )
    where
      once_or_partial : (m p : Bool) → p ≡ false → (m && p) ≡ false
      once_or_partial true p f = f
      once_or_partial false p f = refl

  maker_unbroken : (before after : List Def) (term func : List ℕ) (at : Pos) → defs ≡ before ++ ExternConstructor term func at ∷ after
      → Unbroken before (ExternConstructor term func at)
  maker_unbroken before after term func at e =
      let d = ExternConstructor term func at in
      let s : IsSound (all_erased defs) d = sound_at defs h before d after e in
      let x : Extern = record { term = term; func = func } in
      let found = declared_by_name term s.declared in
      let once : AreApart (extern_terms (externs (before ++ d ∷ after))) =
      subst (λ ds. AreApart (extern_terms (externs ds))) e (subst (λ (xs : List Extern). AreApart (extern_terms xs)) (externs_same defs) h.externs_apart) in
      let new : index_of (extern_terms (externs before)) term ≡ None =
      no_place_of (extern_terms (externs before)) term (new_among extern_of (λ (y : Extern). y.term) before d after x refl once) in
      all_rows before d (
        refl,
        (refl, (refl, (refl, (ap (λ (o : Option Signature). not (is_some o)) found.1, (ap (λ o. is_some o || false) new, (refl, (refl, (refl, (refl, tt))))))))),
      )

  -- an extractor's term has no earlier one
  first_taker : (before after : List Def) (d : Def) (x : ExtractorDef) → extractor_of d ≡ Some x → defs ≡ before ++ d ∷ after
      → index_of (extractor_terms (extractors before)) x.term ≡ None
  first_taker before after d x is e =
      let once : AreApart (extractor_terms (extractors (before ++ d ∷ after))) =
      subst (λ ds. AreApart (extractor_terms (extractors ds))) e (subst AreApart (taken_same defs) h.extractors_apart) in
      no_place_of (extractor_terms (extractors before)) x.term (new_among extractor_of (λ (y : ExtractorDef). y.term) before d after x is once)

  taker_unbroken : (before after : List Def) (term func : List ℕ) (infallible : Bool) (at : Pos) → defs ≡ before ++ ExternExtractor term func infallible at ∷ after
      → Unbroken before (ExternExtractor term func infallible at)
  taker_unbroken before after term func infallible at e =
      let d = ExternExtractor term func infallible at in
      let s : IsSound (all_erased defs) d = sound_at defs h before d after e in
      let x : ExtractorDef = record { term = term; by = ByFunction func infallible; pos = at } in
      let there = declaration_there defs h term s.pure s.multi false false s.args s.ret s.declared in
      let found = declared_found defs h (signature_at defs h term s.pure s.multi false false s.args s.ret there.0) there.1 in
      all_rows before d (
        refl,
        (
          refl,
          (
            refl,
            (
              refl,
              (
                ap (λ (o : Option Signature). not (is_some o)) found,
                (
                  ap is_some (first_taker before after d x refl e),
                  (ap (λ (o : Option Signature). infallible && on o (λ (y : Signature). y.multi)) found ∙ s.once, (refl, (refl, (refl, tt)))),
                ),
              ),
            ),
          ),
        ),
      )

  template_unbroken : (before after : List Def) (term : List ℕ) (params : List (List ℕ)) (template : Pattern) (at : Pos)
      → defs ≡ before ++ Extractor term params template at ∷ after
      → Unbroken before (Extractor term params template at)
  template_unbroken before after term params template at e =
      let d = Extractor term params template at in
      let s : IsSound (all_erased defs) d = sound_at defs h before d after e in
      let x : ExtractorDef = record { term = term; by = ByTemplate (record { params = params; pattern = template }); pos = at } in
      let there = declaration_there defs h term false false false false s.args s.ret s.declared in
      let found = declared_found defs h (signature_at defs h term false false false false s.args s.ret there.0) there.1 in
      let many : (length params == length s.args) ≡ true = eq-eqb (length params) (length s.args) s.many in
      all_rows before d (
        refl,
        (
          refl,
          (
            refl,
            (
              refl,
              (
                ap (λ (o : Option Signature). not (is_some o)) found,
                (
                  ap is_some (first_taker before after d x refl e),
                  (
                    refl,
                    (
                      ap (λ (o : Option Signature). on o (λ (y : Signature). not (length params == length y.args)) || repeats params) found
                          ∙ or_from (not (length params == length s.args)) (repeats params) (ap not many) (none_repeat [] params s.apart (λ y i j. j)),
                      (refl, (refl, tt)),
                    ),
                  ),
                ),
              ),
            ),
          ),
        ),
      )

  rule_unbroken : (before after : List Def) (name : Option (List ℕ)) (prio : _) (term : List ℕ) (args : List Pattern) (iflets : List IfLet) (rhs : Expr) (at : Pos)
      → defs ≡ before ++ Rule name prio term args iflets rhs at ∷ after → Unbroken before (Rule name prio term args iflets rhs at)
  rule_unbroken before after name prio term args iflets rhs at e =
      let d = Rule name prio term args iflets rhs at in
      let s : IsSound (all_erased defs) d = sound_at defs h before d after e in
      let there = declaration_there defs h term false false false false s.2.args s.2.ret s.2.declared in
      let found = declared_found defs h (signature_at defs h term false false false false s.2.args s.2.ret there.0) there.1 in
      let free : func_named (externs defs) term ≡ None =
      ap (option_map (λ (y : Extern). y.func))
      (found_none (λ (y : Extern). y.term) (externs defs) term (λ i. s.2.free (subst (λ (xs : List Extern). Has (extern_terms xs) term) (sym (externs_same defs)) i))) in
      all_rows before d (
        refl,
        (
          refl,
          (
            refl,
            (
              refl,
              (
                refl,
                (
                  refl,
                  (
                    refl,
                    (
                      refl,
                      (
                        refl,
                        (ap₂ (λ (o : Option Signature) (f : Option (List ℕ)). not (is_some o) || is_some f) found free, tt),
                      ),
                    ),
                  ),
                ),
              ),
            ),
          ),
        ),
      )

  unbroken : (before : List Def) (d : Def) (after : List Def) → defs ≡ before ++ d ∷ after → Unbroken before d
  unbroken before (TypeDecl name x n body at) after e = refl
  unbroken before (Decl term pure multi partial recursive args ret at) after e = declaration_unbroken before after term pure multi partial recursive args ret at e
  unbroken before (ExternConstructor term func at) after e = maker_unbroken before after term func at e
  unbroken before (ExternExtractor term func infallible at) after e = taker_unbroken before after term func infallible at e
  unbroken before (ExternConst name ty at) after e = absurd (sound_at defs h before (ExternConst name ty at) after e)
  unbroken before (Extractor term params template at) after e = template_unbroken before after term params template at e
  unbroken before (Converter from to term at) after e = absurd (sound_at defs h before (Converter from to term at) after e)
  unbroken before (Rule name prio term args iflets rhs at) after e = rule_unbroken before after name prio term args iflets rhs at e
  unbroken before (Passed head at) after e = refl

  -- no declaration, and nothing that names one, has a fault
  pub terms_unbroken : fault_in OfTerms (whole_of defs) ≡ None
  terms_unbroken = none_in OfTerms (whole_of defs) [] defs unbroken
