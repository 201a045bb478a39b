-- A pattern whose parts break no row has a tree where a type is expected, and each variable after it has a type.
use Rattle.std.proofs.Common.{◌≡◌, ⊎_elim, ℕ, Bool, true, false, List, [], ◌∷◌, ◌++◌, length, map, Option, Some, None, refl, sym, ap, ◌∙◌, subst, arith}
use Rattle.std.specs.Prelude.{ℤ, ◌==◌, not, is_some, Contains, option_map, option_and_then, slice_get}
use Rattle.std.specs.Option.{option_map_or}
use Rattle.std.proofs.lemmas.Bool.{or_parts, eqb-true, not-false}
use Rattle.std.proofs.lemmas.List.{length-map}
use Rattle.std.proofs.lemmas.List.Elements.{Contains-append_cases}
use Rattle.isle_core.specs.declared.TermId.{TermId}
use Rattle.isle_core.specs.declared.TypeId.{TypeId}
use Rattle.isle_core.specs.declared.VarId.{VarId}
use Rattle.isle_core.specs.declared.types.BuiltinType.TheVariants.{Bool as Truths, Int}
use Rattle.isle_core.specs.declared.types.TypeDef.{TypeDef}
use Rattle.isle_core.specs.declared.types.TypeDef.TheVariants.{Builtin, Primitive, Enum, Struct}
use Rattle.isle_core.specs.declared.types.TypeEnv.{TypeEnv}
use Rattle.isle_core.specs.Pattern as core_pattern
use Rattle.isle_core.specs.Pattern.{Pattern as CorePattern}
use Rattle.isle_core.specs.RuleViews.{patterns_of as core_patterns}
use Rattle.isle_core.proofs.Contained.{contained_cases, none_contained}
use Rattle.isle_ast.specs.Tree as tree
use Rattle.isle_ast.specs.Tree.{Pattern, Patterns, NoPattern, APattern}
use Rattle.isle_declarations.specs.Heads.{terms_of}
use Rattle.isle_declarations.specs.Signatures.{Signature, signature_named, term_named}
use Rattle.isle_declarations.specs.Symbols.{index_of, sym_of}
use Rattle.isle_declarations.specs.Terms.{terms}
use Rattle.isle_declarations.proofs.LookUps.{at_place, named_at, named_is}
use Rattle.isle_terms.specs.Scope.{Local, Scope, no_variables, is_blank, found_in, local_type, bound_at, met_by, met, variable}
use Rattle.isle_terms.proofs.ScopeLaws.{known_local, met_again, bound_new, found_there}
use Rattle.isle_terms.specs.Converters.{Conversion, converters, converter_between, conversion, within}
use Rattle.isle_terms.specs.Expected.{is_integer_def, takes_integers}
use Rattle.isle_terms.specs.Reduced.{integer_by, typed_integer}
use Rattle.isle_terms.specs.TypeNames.{type_named}
use Rattle.isle_terms.specs.Whole.{Whole, termed, arg_types, ret_type, number_of, constant_type}
use Rattle.isle_terms.proofs.MadeTerms.{before_both}
use Rattle.isle_sema.specs.PatternPass.{PatternPass, PatternsPass, term_tree, pattern_within, taken_by, and_tree, bound_tree, count_of, of_each, first_expected, later_expected, pattern_pass, patterns_pass}
use Rattle.isle_sema.specs.RuleRows.{is_taken_misfit, is_misplaced}
use Rattle.isle_sema.specs.Site.{IntegerAt, PartAt, MetAt, TakenAt}
use Rattle.isle_sema.proofs.Conversions.{not_same}
use Rattle.isle_sema.proofs.TypedPatterns.{AreTakenWell, taken_parts, bind_pass}

-- ---- what is known of terms

-- the types of a term's result and of its arguments are declared
pub record IsTypedTerm (w : Whole) (s : Signature) : Type 0 where
  pub ret : TypeId
  pub args : List TypeId
  pub ret_is : type_named w.defs s.ret ≡ Some ret
  pub args_are : map (type_named w.defs) s.args ≡ map Some args

-- so of each term
pub record KnowsTypes (w : Whole) : Type 0 where
  pub typed : (name : List ℕ) (s : Signature) → termed w name ≡ Some s → IsTypedTerm w s

-- a term that is there has a number
pub numbered : (sigs : List Signature) (name : List ℕ) (s : Signature) → signature_named sigs name ≡ Some s → (n : TermId) × (term_named sigs name ≡ Some n)
numbered sigs name s h = by (index_of (terms_of sigs) name) refl
  where
    by : (o : Option ℕ) → index_of (terms_of sigs) name ≡ o → (n : TermId) × (term_named sigs name ≡ Some n)
    by None e = let bad : Some s ≡ None = sym h ∙ named_at sigs name ∙ ap (at_place sigs) e in absurd cc
    by (Some n) e = (record { 0 = n }, ap (option_map (λ (m : ℕ). record { 0 = m })) e)

-- so has that of a converter
pub conversion_termed : (w : Whole) (of expected : Option TypeId) (s : Signature) → conversion w of expected ≡ Some s → termed w s.term ≡ Some s
conversion_termed w None expected s h = absurd cc
conversion_termed w (Some of) None s h = absurd cc
conversion_termed w (Some of) (Some ty) s h =
    let found = converter_between w.defs (converters w.defs) of ty in
    by found (not_same (of.0 == ty.0) (option_and_then (λ (c : Conversion). termed w c.term) found) s h)
  where
    by : (o : Option Conversion) → option_and_then (λ (c : Conversion). termed w c.term) o ≡ Some s → termed w s.term ≡ Some s
    by None e = absurd cc
    by (Some c) e = ap (termed w) (named_is (terms w.defs) c.term s e) ∙ e

-- ---- integers

integer_there : (o : Option TypeDef) (n : ℤ) → option_map_or is_integer_def o false ≡ true → (z : ℤ) × (integer_by o n ≡ Some z)
integer_there None n h = absurd cc
integer_there (Some (Builtin Truths)) n h = absurd cc
integer_there (Some (Builtin (Int ty))) n h = (_, refl)
integer_there (Some (Primitive name rust at)) n h = (_, refl)
integer_there (Some (Enum name is_extern is_nodebug variants at)) n h = absurd cc
integer_there (Some (Struct name is_extern is_nodebug fields at)) n h = absurd cc

-- an integer if a type of integers is expected has its value
pub integer_given : (types : TypeEnv) (ty : TypeId) (n : ℤ) → takes_integers types (Some ty) ≡ true → (v : TypeId × ℤ) × (typed_integer types (Some ty) n ≡ Some v)
integer_given types ty n h = let z = integer_there (slice_get types.types ty.0) n h in ((ty, z.0), ap (option_map (λ (x : ℤ). (ty, x))) z.1)

-- ---- variables

-- each variable has a type
pub record AreTypedIn (scope : Scope) : Type 0 where
  pub by : (l : Local) → Contains scope.variables l → (ty : TypeId) × (l.ty ≡ Some ty)

-- there is none before any pattern
pub none_typed : AreTypedIn no_variables
none_typed = record { by = λ l c. absurd (none_contained l c) }

-- so with one more, at a type
pub met_typed : (scope : Scope) (name : List ℕ) (ty : TypeId) → AreTypedIn scope → AreTypedIn (met scope name (Some ty))
met_typed scope name ty h = by (found_in scope.variables name)
  where
    new : Local
    new = record { name = name; ty = Some ty; number = scope.next }

    new_typed : (l : Local) → Contains (new ∷ []) l → (of : TypeId) × (l.ty ≡ Some of)
    new_typed l c = ⊎_elim (λ (e : new ≡ l). (ty, ap (λ (x : Local). x.ty) (sym e))) (λ d. absurd (none_contained l d)) (contained_cases new [] l c)

    by : (o : Option Local) → AreTypedIn (met_by o scope name (Some ty))
    by (Some l) = h
    by None = record { by = λ l c. ⊎_elim (λ d. h.by l d) (λ d. new_typed l d) (Contains-append_cases scope.variables (new ∷ []) l c) }

-- a variable that is bound is known
variable_there : (scope : Scope) (name : List ℕ) (of : Option TypeId) → AreTypedIn scope → bound_at scope name ≡ Some of → (v : TypeId × VarId) × (variable scope name ≡ Some v)
variable_there scope name of h e = by (found_in scope.variables name) refl e
  where
    by : (o : Option Local) → found_in scope.variables name ≡ o → local_type o ≡ Some of → (v : TypeId × VarId) × (variable scope name ≡ Some v)
    by None is k = absurd cc
    by (Some l) is k =
        let t = h.by l (found_there scope.variables name l is) in
        ((t.0, record { 0 = l.number }), known_local (found_in scope.variables name) l t.0 is t.1)

-- so is one that is met
met_there : (scope : Scope) (name : List ℕ) (ty : TypeId) → AreTypedIn scope → (v : TypeId × VarId) × (variable (met scope name (Some ty)) name ≡ Some v)
met_there scope name ty h = by (bound_at scope name) refl
  where
    by : (o : Option (Option TypeId)) → bound_at scope name ≡ o → (v : TypeId × VarId) × (variable (met scope name (Some ty)) name ≡ Some v)
    by None e = variable_there (met scope name (Some ty)) name (Some ty) (met_typed scope name ty h) (bound_new scope name (Some ty) e)
    by (Some of) e = variable_there (met scope name (Some ty)) name of (met_typed scope name ty h) (ap (λ (s : Scope). bound_at s name) (met_again scope name (Some ty) of e) ∙ e)

-- ---- patterns

-- a pattern has a tree, and each variable after it a type
pub record IsTreed (p : PatternPass) : Type 0 where
  pub tree : CorePattern
  pub is : p.tree ≡ Some tree
  pub after : AreTypedIn p.scope

-- so of patterns in order
pub record AreTreed (ps : PatternsPass) : Type 0 where
  pub trees : List CorePattern
  pub are : ps.trees ≡ Some trees
  pub after : AreTypedIn ps.scope

-- a type is expected of each pattern
abbrev pub AreExpected : List (Option TypeId) → Patterns → Type 0
AreExpected expected NoPattern = Unit {0}
AreExpected expected (APattern p ps) = (ty : TypeId) × (first_expected expected ≡ Some ty) × AreExpected (later_expected expected) ps

-- so if there are as many types
pub as_many_expected : (tys : List TypeId) (ps : Patterns) → count_of ps ≡ length tys → AreExpected (map Some tys) ps
as_many_expected tys NoPattern h = tt
as_many_expected [] (APattern p ps) h = absurd (omega arith)
as_many_expected (ty ∷ tys) (APattern p ps) h = (ty, refl, as_many_expected tys ps (omega arith))

-- and of each of several patterns on one value
each_expected : (ty : TypeId) (ps : Patterns) → AreExpected (of_each (Some ty) ps) ps
each_expected ty NoPattern = tt
each_expected ty (APattern p ps) = (ty, refl, each_expected ty ps)

-- patterns have trees where a type is expected of each
abbrev HaveTrees : Whole → Scope → Patterns → Type 0
HaveTrees w scope ps = (expected : List (Option TypeId)) → AreExpected expected ps → AreTakenWell w (patterns_pass w expected scope ps).sites → AreTreed (patterns_pass w expected scope ps)

-- a term's pattern and its variables
record IsTermTreed (of : Option TypeId) (term : Option TermId) (parts : PatternsPass) : Type 0 where
  tree : CorePattern
  is : term_tree of term parts.trees ≡ Some tree
  after : AreTypedIn parts.scope

term_there : (of : Option TypeId) (term : Option TermId) (ps : Option (List CorePattern)) (ty : TypeId) (n : TermId) (parts : List CorePattern) → of ≡ Some ty → term ≡ Some n → ps ≡ Some parts
    → term_tree of term ps ≡ Some (core_pattern.Term ty n (core_patterns parts))
term_there of term ps ty n parts a b c = ap (λ o. term_tree o term ps) a ∙ ap (λ o. term_tree (Some ty) o ps) b ∙ ap (λ o. term_tree (Some ty) (Some n) o) c

-- a term's pattern has a tree if its parts have
term_treed : (w : Whole) (expected : Option TypeId) (scope : Scope) (ps : Patterns) (name : List ℕ) (o : Option Signature) → KnowsTypes w → termed w name ≡ o → HaveTrees w scope ps
    → AreTakenWell w (TakenAt expected o (count_of ps) ∷ (patterns_pass w (arg_types w o) scope ps).sites) → IsTermTreed (ret_type w o) (term_named (terms w.defs) name) (patterns_pass w (arg_types w o) scope ps)
term_treed w expected scope ps name None knows is go well = absurd cc
term_treed w expected scope ps name (Some s) knows is go well =
    let t = knows.typed name s is in
    let n = numbered (terms w.defs) name s is in
    let args = map (type_named w.defs) s.args in
    let k = taken_parts w (TakenAt expected (Some s) (count_of ps) ∷ []) (patterns_pass w args scope ps).sites well in
    let fits = or_parts (not (count_of ps == length s.args)) _ (or_parts (is_taken_misfit w (Some s) (count_of ps)) false k.0.taken).0 in
    let many : count_of ps ≡ length s.args = eqb-true (count_of ps) (length s.args) (not-false (count_of ps == length s.args) fits.0) in
    let long : count_of ps ≡ length t.args = many ∙ sym (length-map s.args (type_named w.defs)) ∙ ap length t.args_are ∙ length-map t.args Some in
    let parts = go args (subst (λ (os : List (Option TypeId)). AreExpected os ps) (sym t.args_are) (as_many_expected t.args ps long)) k.1 in
    record { tree = core_pattern.Term t.ret n.0 (core_patterns parts.trees); is = term_there (type_named w.defs s.ret) (term_named (terms w.defs) name) (patterns_pass w args scope ps).trees t.ret n.0 parts.trees t.ret_is n.1 parts.are; after = parts.after }

-- so within a converter
within_treed : (w : Whole) (of expected : Option TypeId) (by : Option Signature) (p : Option CorePattern) (q : CorePattern) → KnowsTypes w → conversion w of expected ≡ by → p ≡ Some q → (x : CorePattern) × (pattern_within w by p ≡ Some x)
within_treed w of expected None p q knows is h = (q, h)
within_treed w of expected (Some s) p q knows is h =
    let there = conversion_termed w of expected s is in
    let t = knows.typed s.term s there in
    let n = numbered (terms w.defs) s.term s there in
    (core_pattern.Term t.ret n.0 (core_patterns (q ∷ [])), term_there (ret_type w (Some s)) (number_of w (Some s)) (option_map (λ (y : CorePattern). y ∷ []) p) t.ret n.0 (q ∷ []) t.ret_is n.1 (ap (option_map (λ (y : CorePattern). y ∷ [])) h))

-- the parts of a term's pattern, after the converter around it
behind_converter : (w : Whole) (by : Option Signature) (of expected : Option TypeId) (o : Option Signature) (scope : Scope) (ps : Patterns) → AreTakenWell w (taken_by by expected ++ TakenAt (within by of expected) o (count_of ps) ∷ (patterns_pass w (arg_types w o) scope ps).sites)
    → AreTakenWell w (TakenAt (within by of expected) o (count_of ps) ∷ (patterns_pass w (arg_types w o) scope ps).sites)
behind_converter w by of expected o scope ps well = (taken_parts w (taken_by by expected) (TakenAt (within by of expected) o (count_of ps) ∷ (patterns_pass w (arg_types w o) scope ps).sites) well).1

-- `@` has a tree if its pattern has
bind_treed : (w : Whole) (ty : TypeId) (scope : Scope) (name : List ℕ) (p : Pattern) (blank : Bool) → ((mid : Scope) → AreTypedIn mid → AreTakenWell w (pattern_pass w (Some ty) mid p).sites → IsTreed (pattern_pass w (Some ty) mid p)) → AreTypedIn scope
    → AreTakenWell w (bind_pass w (Some ty) scope name p blank).sites → IsTreed (bind_pass w (Some ty) scope name p blank)
bind_treed w ty scope name p true go typed well = let k = go scope typed well in record { tree = k.tree; is = k.is; after = k.after }
bind_treed w ty scope name p false go typed well =
    let mid = met scope name (Some ty) in
    let inner = pattern_pass w (Some ty) mid p in
    let k = go mid (met_typed scope name ty typed) (taken_parts w (MetAt (Some ty) (bound_at scope name) ∷ []) inner.sites well).1 in
    let v = met_there scope name ty typed in
    record { tree = core_pattern.BindPattern v.0.0 v.0.1 k.tree; is = ap (λ o. bound_tree o inner.tree) v.1 ∙ ap (bound_tree (Some v.0)) k.is; after = k.after }

mutual
  -- a pattern where a type is expected has a tree
  pub pattern_treed : (w : Whole) (ty : TypeId) (scope : Scope) (p : Pattern) → KnowsTypes w → AreTypedIn scope → AreTakenWell w (pattern_pass w (Some ty) scope p).sites → IsTreed (pattern_pass w (Some ty) scope p)
  pattern_treed w ty scope (tree.Int n) knows typed well =
      let takes = not-false (takes_integers w.types (Some ty)) (or_parts (is_misplaced w (IntegerAt (Some ty))) false well.placed).0 in
      let v = integer_given w.types ty n takes in
      record { tree = core_pattern.ConstInt v.0.0 v.0.1; is = ap (option_map (λ (x : TypeId × ℤ). core_pattern.ConstInt x.0 x.1)) v.1; after = typed }
  pattern_treed w ty scope (tree.Truth b) knows typed well = record { tree = core_pattern.ConstBool b; is = refl; after = typed }
  pattern_treed w ty scope tree.Wildcard knows typed well = record { tree = core_pattern.Wildcard ty; is = refl; after = typed }
  pattern_treed w ty scope (tree.Var name) knows typed well =
      let v = met_there scope name ty typed in
      record { tree = core_pattern.Var v.0.0 v.0.1; is = ap (option_map (λ (x : TypeId × VarId). core_pattern.Var x.0 x.1)) v.1; after = met_typed scope name ty typed }
  pattern_treed w ty scope (tree.Const name) knows typed well = by (constant_type w name) refl (or_parts (not (is_some (constant_type w name))) false well.declared).0
    where
      by : (o : Option TypeId) → constant_type w name ≡ o → not (is_some o) ≡ false → IsTreed (pattern_pass w (Some ty) scope (tree.Const name))
      by None e h = absurd cc
      by (Some of) e h =
          let name_of = sym_of w.types.syms name in
          record { tree = core_pattern.ConstPrim of name_of; is = ap (option_map (λ (t : TypeId). core_pattern.ConstPrim t name_of)) e; after = typed }
  pattern_treed w ty scope (tree.Term name ps) knows typed well =
      let o = termed w name in
      let of = ret_type w o in
      let by = conversion w of (Some ty) in
      let parts = patterns_pass w (arg_types w o) scope ps in
      let t = term_treed w (within by of (Some ty)) scope ps name o knows refl (λ expected each fits. patterns_treed w expected scope ps knows typed each fits) (behind_converter w by of (Some ty) o scope ps well) in
      let x = within_treed w of (Some ty) by (term_tree of (term_named (terms w.defs) name) parts.trees) t.tree knows refl t.is in
      record { tree = x.0; is = x.1; after = t.after }
  pattern_treed w ty scope (tree.Bind name p) knows typed well =
      let k = bind_treed w ty scope name p (is_blank name) (λ mid known fits. pattern_treed w ty mid p knows known fits) typed well in
      record { tree = k.tree; is = k.is; after = k.after }
  pattern_treed w ty scope (tree.And ps) knows typed well =
      let expected = of_each (Some ty) ps in
      let parts = patterns_pass w expected scope ps in
      let k = patterns_treed w expected scope ps knows typed (each_expected ty ps) (taken_parts w (PartAt ∷ []) parts.sites well).1 in
      record { tree = core_pattern.And ty (core_patterns k.trees); is = ap (and_tree (Some ty)) k.are; after = k.after }

  -- so have patterns where a type is expected of each
  pub patterns_treed : (w : Whole) (expected : List (Option TypeId)) (scope : Scope) (ps : Patterns) → KnowsTypes w → AreTypedIn scope → AreExpected expected ps → AreTakenWell w (patterns_pass w expected scope ps).sites → AreTreed (patterns_pass w expected scope ps)
  patterns_treed w expected scope NoPattern knows typed each well = record { trees = []; are = refl; after = typed }
  patterns_treed w [] scope (APattern p ps) knows typed each well = let bad : None ≡ Some each.0 = each.1 in absurd cc
  patterns_treed w (None ∷ tys) scope (APattern p ps) knows typed each well = let bad : None ≡ Some each.0 = each.1 in absurd cc
  patterns_treed w (Some ty ∷ tys) scope (APattern p ps) knows typed each well =
      let one = pattern_pass w (Some ty) scope p in
      let rest = patterns_pass w tys one.scope ps in
      let k = taken_parts w one.sites rest.sites well in
      let first = pattern_treed w ty scope p knows typed k.0 in
      let others = patterns_treed w tys one.scope ps knows first.after each.2 k.1 in
      record { trees = first.tree ∷ others.trees; are = before_both one.tree rest.trees first.tree others.trees first.is others.are; after = others.after }
