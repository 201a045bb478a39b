-- The right side of a rule is numbered, call by call.
use Rattle.std.proofs.Common.{◌≡◌, ◌⊎◌, inl, inr, ⊎_elim, ℕ, zero, suc, ◌<◌, ◌≤◌, ◌+◌, ℤ, List, [], ◌∷◌, ◌++◌, length, map, take, get_or, if◌then◌else◌, Bool, true, false, Option, Some, None, Result, Ok, Err, refl, sym, ap, ◌∙◌, subst, arith, append_assoc, append-nil}
use Rattle.std.specs.Prelude.{Contains, IsSomeAnd, IfOk, OnOk, slice_get}
use Rattle.std.specs.List.{AllByRecursion}
use Rattle.std.proofs.lemmas.List.{map_more, map-append, length-map, get_or-map, take_all}
use Rattle.std.proofs.lemmas.List.Elements.{Contains-append_left, Contains-append_right, Contains-append_cases}
use Rattle.std.proofs.lemmas.Option.{slice_get-get_or}
use Rattle.isle_core.specs.declared.BindingId.{BindingId}
use Rattle.isle_core.specs.declared.TermId.{TermId}
use Rattle.isle_core.specs.declared.Sym.{Sym}
use Rattle.isle_core.specs.declared.TypeId.{TypeId}
use Rattle.isle_core.specs.declared.VarId.{VarId}
use Rattle.isle_core.specs.declared.types.ReturnKind.{ReturnKind}
use Rattle.isle_core.specs.declared.types.ReturnKind.TheVariants as return_kind
use Rattle.isle_core.specs.declared.types.Term.{Term}
use Rattle.isle_core.specs.declared.types.TermKind.{TermKind}
use Rattle.isle_core.specs.declared.types.TermKind.TheVariants as kind
use Rattle.isle_core.specs.declared.types.ConstructorKind.TheVariants as constructor
use Rattle.isle_core.specs.declared.values.Callee.{Callee}
use Rattle.isle_core.specs.declared.values.Callee.TheVariants.{External, Internal}
use Rattle.isle_core.specs.Terms.{sym_text, impure_callee}
use Rattle.isle_core.specs.declared.rules.Expr.{Expr as CodeExpr}
use Rattle.isle_core.specs.Expr as expr
use Rattle.isle_core.specs.Expr.{Expr, Exprs, NoExpr}
use Rattle.isle_core.specs.RuleViews.{expr as seen, exprs_of}
use Rattle.isle_core.specs.BuiltRule.{IsBuiltKind, HasBuiltTerms, AllHaveBuiltTerms}
use Rattle.isle_core.specs.Making.{MakesNothing, making_kind, making_of as making_at, making_in, making}
use Rattle.isle_core.specs.Calling.{Calling, ByTurns, ByCases, NoCall, kind_of, pure_callee, calling_by, calling_of, calling, instance_of, one_more, impure, impure_all}
use Rattle.isle_core.specs.Path as path
use Rattle.isle_core.specs.Path.{Path, Paths, NoPath, APath, at, at_all, paths_of}
use Rattle.isle_core.specs.RightSide.{path as path_of, paths, path_or, bool_type, term_path, call_path, answer_path}
use Rattle.isle_core.specs.RulePaths.{expr_paths, exprs_paths, with_inner}
use Rattle.isle_core.specs.Tests.{Places}
use Rattle.isle_core.specs.Rule.{Environment}
use Rattle.isle_core.specs.Scope.{IsInScope, AreInScope}
use Rattle.isle_scope.specs.Table.{held}
use Rattle.isle_core.proofs.Contained.{head_contained, contained_cases, none_contained}
use Rattle.isle_core.proofs.OptionLaws.{some_same}
use Rattle.isle_rulesets.specs.declared.made.Made.{Made}
use Rattle.isle_rulesets.specs.declared.made.Made.TheVariants as made
use Rattle.isle_rulesets.specs.Keys.{key_path, IsThere, HasParts}
use Rattle.isle_rulesets.specs.Made.{making_of, whole_key}
use Rattle.isle_rulesets.specs.Met.{call_met, list_met, expr_calls, exprs_calls, expr_lists, exprs_lists}
use Rattle.isle_rulesets.specs.Numbering.{Numbered, Extends, Numbers, next_call, same_call, value_by, with_value, listed_by, Calls}
use Rattle.isle_rulesets.specs.PatternTests.{path_at}
use Rattle.isle_rulesets.specs.RightSides.{is_pure, pure_counts, Variables, StandsAt, Stand, AreThere, Grows, NumbersExpr, NumbersTerm, AllAt, NumbersExprs, Given, AllGiven}
use Rattle.isle_rulesets.proofs.PlacedPaths.{meets_none, meets_same, meets_then, extends_self, extends_more, at_get, at_kept, contains_there, contains_kept, there_kept, all_there_kept}
use Rattle.isle_rulesets.proofs.PatternTestLaws.{env_of}

-- ---- one step after another

pub grows_self : (n : Numbered) (bs : List BindingId) → Grows n n bs bs [] [] [] 0
grows_self n bs = record {
  extends = extends_self (paths_of n.bindings);
  only = λ p c. inl c;
  all = λ p c. absurd (none_contained p c);
  ordered = λ qs x. sym (append-nil (map (at qs) bs));
  there = λ h. h;
  calls = omega arith;
  lists = meets_none n;
}

pub grows_then : (a b c : Numbered) (xs ys zs : List BindingId) (ps qs cs ds ls ms : List Path) (k l : ℕ) → Grows a b xs ys ps cs ls k → Grows b c ys zs qs ds ms l → Grows a c xs zs (ps ++ qs) (cs ++ ds) (ls ++ ms) (k + l)
grows_then a b c xs ys zs ps qs cs ds ls ms k l g h = record {
  extends = extends_more (paths_of a.bindings) (paths_of b.bindings) (paths_of c.bindings) g.extends h.extends;
  only = λ p d. ⊎_elim (λ e. ⊎_elim (λ f. inl f) (λ f. inr (Contains-append_left ps qs p f)) (g.only p e)) (λ e. inr (Contains-append_right ps qs p e)) (h.only p d);
  all = λ p d. ⊎_elim (λ e. contains_kept (paths_of b.bindings) (paths_of c.bindings) p h.extends (g.all p e)) (λ e. h.all p e) (Contains-append_cases ps qs p d);
  ordered = λ rs x. h.ordered rs x ∙ ap (λ ms. ms ++ ds) (g.ordered rs (extends_more (paths_of b.bindings) (paths_of c.bindings) rs h.extends x)) ∙ append_assoc (map (at rs) xs) cs ds;
  there = λ k. h.there (g.there k);
  calls = h.calls ∙ ap (λ n. n + l) g.calls ∙ assoc;
  lists = meets_then a b c ls ms h.extends g.lists h.lists;
}
  where
    assoc : (a.calls + k) + l ≡ a.calls + (k + l)
    assoc = omega arith

-- ---- constants and variables

gives_key : (old new : Numbered) (bs : List BindingId) (p : Path) (b : BindingId) → Numbers old new p b → Grows old new bs bs (p ∷ []) [] [] 0
gives_key old new bs p b h = record {
  extends = h.extends;
  only = λ q c. ⊎_elim (λ d. inl d) (λ e. inr (subst (Contains (p ∷ [])) (sym e) (head_contained p []))) (h.only q c);
  all = λ q c. ⊎_elim (λ e. subst (Contains (paths_of new.bindings)) e (contains_there (paths_of new.bindings) b.0 p h.found)) (λ d. absurd (none_contained q d)) (contained_cases p [] q c);
  ordered = λ qs x. sym (append-nil (map (at qs) bs));
  there = λ k. all_there_kept (paths_of old.bindings) (paths_of new.bindings) bs h.extends k;
  calls = h.calls ∙ zero_more;
  lists = meets_same old new h.lists;
}
  where
    zero_more : old.calls ≡ old.calls + 0
    zero_more = omega arith

pub given_bool : {E : Type 0} (r : Result BindingId E) (terms : List Term) (variables : Variables) (old new : Numbered) (bs : List BindingId) (e : Expr) (v : Bool) → e ≡ expr.ConstBool v → IfOk r (Numbers old new (path.ConstBool bool_type v)) → IfOk r (Given terms variables old new bs bs e)
given_bool (Err x) terms variables old new bs e v is h = tt
given_bool (Ok b) terms variables old new bs e v is h = λ env places t s. subst (λ d. NumbersExpr env places old new bs bs d b) (sym is) (record { grows = gives_key old new bs (path.ConstBool bool_type v) b h; found = h.found })

pub given_int : {E : Type 0} (r : Result BindingId E) (terms : List Term) (variables : Variables) (old new : Numbered) (bs : List BindingId) (e : Expr) (ty : TypeId) (n : ℤ) → e ≡ expr.ConstInt ty n → IfOk r (Numbers old new (path.ConstInt ty n)) → IfOk r (Given terms variables old new bs bs e)
given_int (Err x) terms variables old new bs e ty n is h = tt
given_int (Ok b) terms variables old new bs e ty n is h = λ env places t s. subst (λ d. NumbersExpr env places old new bs bs d b) (sym is) (record { grows = gives_key old new bs (path.ConstInt ty n) b h; found = h.found })

pub given_prim : {E : Type 0} (r : Result BindingId E) (terms : List Term) (variables : Variables) (old new : Numbered) (bs : List BindingId) (e : Expr) (ty : TypeId) (name : Sym) → e ≡ expr.ConstPrim ty name → IfOk r (Numbers old new (path.ConstPrim name)) → IfOk r (Given terms variables old new bs bs e)
given_prim (Err x) terms variables old new bs e ty name is h = tt
given_prim (Ok b) terms variables old new bs e ty name is h = λ env places t s. subst (λ d. NumbersExpr env places old new bs bs d b) (sym is) (record { grows = gives_key old new bs (path.ConstPrim name) b h; found = h.found })

var_there : (ps : List Path) (o : Option BindingId) (q : Option Path) (b : BindingId) → o ≡ Some b → StandsAt ps o q → slice_get ps b.0 ≡ Some (path_or q)
var_there ps (Some c) (Some p) b e h = subst (λ (x : BindingId). slice_get ps x.0 ≡ Some p) (some_same c b e) h
var_there ps None q b e h = cc
var_there ps (Some c) None b e h = absurd h

pub given_var : (terms : List Term) (variables : Variables) (n : Numbered) (bs : List BindingId) (e : Expr) (ty : TypeId) (x : VarId) (b : BindingId) → e ≡ expr.Var ty x → held variables x.0 ≡ Some b → Given terms variables n n bs bs e b
given_var terms variables n bs e ty x b is got env places t s = subst (λ d. NumbersExpr env places n n bs bs d b) (sym is) (record {
  grows = gives_key n n bs p b (record { found = there; extends = extends_self (paths_of n.bindings); only = λ q c. inl c; calls = refl; lists = refl });
  found = there;
})
  where
    p : Path
    p = path_or (places x.0)

    there : slice_get (paths_of n.bindings) b.0 ≡ Some (path_or (places x.0))
    there = var_there (paths_of n.bindings) (held variables x.0) (places x.0) b got (s.by x.0)

-- ---- calls

all_at : (ps : List Path) (bs : List BindingId) (qs : Paths) → AllAt ps bs qs → at_all ps bs ≡ qs
all_at ps [] NoPath h = refl
all_at ps (b ∷ bs) (APath q qs) h = ap (λ p. APath p (at_all ps bs)) (at_get ps b.0 q h.0) ∙ ap (APath q) (all_at ps bs qs h.1)
all_at ps [] (APath q qs) h = absurd h
all_at ps (b ∷ bs) NoPath h = absurd h

all_there : (ps : List Path) (bs : List BindingId) (qs : Paths) → AllAt ps bs qs → AllByRecursion (IsThere ps) bs
all_there ps [] NoPath h = tt
all_there ps (b ∷ bs) (APath q qs) h = ((q, h.0), all_there ps bs qs h.1)
all_there ps [] (APath q qs) h = absurd h
all_there ps (b ∷ bs) NoPath h = absurd h

one_behind : (c : Calling) (n : ℕ) → n + one_more c 0 ≡ one_more c n
one_behind (ByTurns callee kind) n = omega arith
one_behind (ByCases callee kind) n = omega arith
one_behind NoCall n = omega arith

-- a call after its arguments
call_behind : (env : Environment) (places : Places) (old mid new : Numbered) (before middle after : List BindingId) (ty : TypeId) (term : TermId) (es : Exprs) (bs : List BindingId) (b : BindingId) → NumbersExprs env places old mid before middle es bs
    → NumbersTerm mid new middle after (calling env term) (call_path env term (at_all (paths_of mid.bindings) bs) mid.calls) b → NumbersExpr env places old new before after (expr.Term ty term es) b
call_behind env places old mid new before middle after ty term es bs b g h =
    let k = subst (λ p. NumbersTerm mid new middle after (calling env term) p b) same h in
    record {
      grows = subst (λ n. Grows old new before after (expr_paths env (expr.Term ty term es) places old.calls) (expr_calls env (expr.Term ty term es) places old.calls) (expr_lists env (expr.Term ty term es) places old.calls) n) (one_behind (calling env term) (impure_all env es))
          (grows_then old mid new before middle after (exprs_paths env es places old.calls) (with_inner (calling env term) p) (exprs_calls env es places old.calls) (call_met (calling env term) p) (exprs_lists env es places old.calls) (list_met (calling env term) p) (impure_all env es) (one_more (calling env term) 0) g.grows k.grows);
      found = k.found;
    }
  where
    p : Path
    p = call_path env term (paths env es places old.calls) (old.calls + impure_all env es)

    same : call_path env term (at_all (paths_of mid.bindings) bs) mid.calls ≡ call_path env term (paths env es places old.calls) (old.calls + impure_all env es)
    same = ap (λ qs. call_path env term qs mid.calls) (all_at (paths_of mid.bindings) bs (paths env es places old.calls) g.found) ∙ ap (call_path env term (paths env es places old.calls)) g.grows.calls

-- an item that is there
some_at : {A : Type 0} (P : A → Type 0) (xs : List A) (i : ℕ) (x : A) → IsSomeAnd (slice_get xs i) P → x ≡ get_or xs i x → P x
some_at P [] i x h e = absurd h
some_at P (y ∷ xs) zero x h e = subst P (sym e) h
some_at P (y ∷ xs) (suc i) x h e = some_at P xs i x h e

some_there : {A : Type 0} (P : A → Type 0) (xs : List A) (i : ℕ) (x : A) → IsSomeAnd (slice_get xs i) P → x ≡ get_or xs i x → slice_get xs i ≡ Some x
some_there P [] i x h e = absurd h
some_there P (y ∷ xs) zero x h e = ap Some (sym e)
some_there P (y ∷ xs) (suc i) x h e = some_there P xs i x h e

-- by turns if it is impure, and by cases if it is pure
pub data IsCalled (k : TermKind) (c : Calling) : Type 0 where
  by_turns : (callee : Callee) → is_pure k ≡ false → c ≡ ByTurns callee (kind_of k) → IsCalled k c
  by_cases : (callee : Callee) → is_pure k ≡ true → c ≡ ByCases callee (kind_of k) → IsCalled k c

called_kind : (env : Environment) (t : Term) (k : TermKind) → IsBuiltKind k → making_kind k ≡ MakesNothing → IsCalled k (calling_by (kind_of k) (impure_callee env t k) (pure_callee env t k))
called_kind env t (kind.Decl false multi partial recursive constructor.Internal extractor) h m = by_turns (Internal (sym_text env t.name)) refl refl
called_kind env t (kind.Decl false multi partial recursive (constructor.External func) extractor) h m = by_turns (External (sym_text env func)) refl refl
called_kind env t (kind.Decl true multi partial recursive constructor.Internal extractor) h m = by_cases (Internal (sym_text env t.name)) refl refl
called_kind env t (kind.Decl true multi partial recursive (constructor.External func) extractor) h m = by_cases (External (sym_text env func)) refl refl
called_kind env t (kind.Variant ty variant) h m = absurd cc
called_kind env t (kind.Struct ty) h m = absurd cc
called_kind env t k h m = absurd h

-- a built term that makes nothing is called so
called_in : (terms : List Term) (term : TermId) (t : Term) → IsSomeAnd (slice_get terms term.0) (λ (x : Term). IsBuiltKind x.kind) → making_in terms term ≡ MakesNothing → t ≡ get_or terms term.0 t → (env : Environment) → env.terms ≡ terms → IsCalled t.kind (calling env term)
called_in terms term t h none here env same =
    let there = some_there (λ (x : Term). IsBuiltKind x.kind) terms term.0 t h here in
    subst (IsCalled t.kind) (sym (ap (λ ts. calling_of env (slice_get ts term.0)) same ∙ ap (calling_of env) there))
    (called_kind env t t.kind (some_at (λ (x : Term). IsBuiltKind x.kind) terms term.0 t h here) (sym (ap making_at there) ∙ none))

no_call_by : (env : Environment) (t : Term) (k : TermKind) (m : Made) → making_kind k ≡ making_of m → calling_by (kind_of k) (impure_callee env t k) (pure_callee env t k) ≡ NoCall
no_call_by env t (kind.Variant ty variant) m e = refl
no_call_by env t (kind.Struct ty) m e = refl
no_call_by env t (kind.Decl pure multi partial recursive by extractor) (made.Variant ty variant) e = cc
no_call_by env t (kind.Decl pure multi partial recursive by extractor) (made.Struct ty) e = cc

no_call_of : (env : Environment) (o : Option Term) (m : Made) → making_at o ≡ making_of m → calling_of env o ≡ NoCall
no_call_of env None m e = refl
no_call_of env (Some t) m e = no_call_by env t t.kind m e

-- a term that makes something is not called
pub no_call : (env : Environment) (terms : List Term) (term : TermId) (m : Made) → env.terms ≡ terms → making_in terms term ≡ making_of m → calling env term ≡ NoCall
no_call env terms term m same e = no_call_of env (slice_get env.terms term.0) m (ap (λ ts. making_in ts term) same ∙ e)

-- the key of what is made has the path of the term
whole_path : (ps : List Path) (m : Made) (term : TermId) (bs : List BindingId) (instance : ℕ) → key_path ps (whole_key m bs) ≡ term_path (making_of m) term (at_all ps bs) instance
whole_path ps (made.Variant ty variant) term bs instance = refl
whole_path ps (made.Struct ty) term bs instance = refl

pub whole_has_parts : (ps : List Path) (m : Made) (bs : List BindingId) → AllByRecursion (IsThere ps) bs → HasParts ps (whole_key m bs)
whole_has_parts ps (made.Variant ty variant) bs h = h
whole_has_parts ps (made.Struct ty) bs h = h

-- what the code says of a term on numbers
abbrev pub TermGiven : List Term → TermId → List BindingId → Numbered → Numbered → List BindingId → List BindingId → BindingId → Type 0
TermGiven terms term bs old new before after b = (env : Environment) → env.terms ≡ terms → NumbersTerm old new before after (calling env term) (call_path env term (at_all (paths_of old.bindings) bs) old.calls) b

made_numbers : (terms : List Term) (term : TermId) (m : Made) (bs : List BindingId) (old new : Numbered) (ordered : List BindingId) (b : BindingId) → making_in terms term ≡ making_of m → Numbers old new (key_path (paths_of old.bindings) (whole_key m bs)) b → TermGiven terms term bs old new ordered ordered b
made_numbers terms term m bs old new ordered b makes h env same =
    let qs = at_all (paths_of old.bindings) bs in
    let making_is : making env term ≡ making_of m = ap (λ ts. making_in ts term) same ∙ makes in
    let none : calling env term ≡ NoCall = no_call env terms term m same makes in
    let p = term_path (making_of m) term qs (instance_of (calling env term) old.calls) in
    let number : Numbers old new p b = subst (λ q. Numbers old new q b) (whole_path (paths_of old.bindings) m term bs (instance_of (calling env term) old.calls)) h in
    let base : NumbersTerm old new ordered ordered NoCall p b = record { grows = gives_key old new ordered p b number; found = number.found } in
    subst (λ mk. NumbersTerm old new ordered ordered (calling env term) (term_path mk term qs (instance_of (calling env term) old.calls)) b) (sym making_is)
    (subst (λ c. NumbersTerm old new ordered ordered c p b) (sym none) base)

-- what was made
pub made_given : {E : Type 0} (r : Result BindingId E) (terms : List Term) (term : TermId) (m : Made) (bs : List BindingId) (old new : Numbered) (ordered : List BindingId) → making_in terms term ≡ making_of m → IfOk r (Numbers old new (key_path (paths_of old.bindings) (whole_key m bs)))
    → IfOk r (TermGiven terms term bs old new ordered ordered)
made_given (Err x) terms term m bs old new ordered makes h = tt
made_given (Ok b) terms term m bs old new ordered makes h = made_numbers terms term m bs old new ordered b makes h

-- ---- a call that has numbers

all_there_push : (ps : List Path) (bs : List BindingId) (b : BindingId) → AllByRecursion (IsThere ps) bs → IsThere ps b → AllByRecursion (IsThere ps) (bs ++ b ∷ [])
all_there_push ps [] b h k = (k, tt)
all_there_push ps (c ∷ bs) b h k = (h.0, all_there_push ps bs b h.1 k)

-- by how often the call answers
abbrev kind_answers : Calling → ReturnKind → Type 0
kind_answers c kind = (p : Path) → (with_inner c p ≡ with_value kind p) × (answer_path c p ≡ value_by kind p) × (list_met c p ≡ listed_by kind p)

turn_answers : (callee : Callee) (kind : ReturnKind) → kind_answers (ByTurns callee kind) kind
turn_answers callee return_kind.Plain p = (refl, refl, refl)
turn_answers callee return_kind.Option p = (refl, refl, refl)
turn_answers callee return_kind.Iterator p = (refl, refl, refl)

case_answers : (callee : Callee) (kind : ReturnKind) → kind_answers (ByCases callee kind) kind
case_answers callee return_kind.Plain p = (refl, refl, refl)
case_answers callee return_kind.Option p = (refl, refl, refl)
case_answers callee return_kind.Iterator p = (refl, refl, refl)

value_of_kind : (kind : ReturnKind) (p q : Path) → Contains (with_value kind p) q → (q ≡ p) ⊎ (q ≡ value_by kind p)
value_of_kind return_kind.Plain p q d = ⊎_elim (λ e. inl (sym e)) (λ n. absurd (none_contained q n)) (contained_cases p [] q d)
value_of_kind return_kind.Option p q d = ⊎_elim (λ e. inl (sym e)) (λ f. ⊎_elim (λ e. inr (sym e)) (λ n. absurd (none_contained q n)) (contained_cases (path.Inner p) [] q f)) (contained_cases p (path.Inner p ∷ []) q d)
value_of_kind return_kind.Iterator p q d = ⊎_elim (λ e. inl (sym e)) (λ f. ⊎_elim (λ e. inr (sym e)) (λ n. absurd (none_contained q n)) (contained_cases (path.Chosen p) [] q f)) (contained_cases p (path.Chosen p ∷ []) q d)

-- the numbers of lists that were met
listed_at : (kind : ReturnKind) (qs : List Path) (call : BindingId) (p : Path) → at qs call ≡ p → map (at qs) (listed_by kind call) ≡ listed_by kind p
listed_at return_kind.Plain qs call p e = refl
listed_at return_kind.Option qs call p e = refl
listed_at return_kind.Iterator qs call p e = ap (λ q. q ∷ []) e

-- a call joins those before if its place counts
call_numbers : (old new : Numbered) (before after : List BindingId) (c : Calling) (kind : ReturnKind) (p : Path) (n : ℕ) (call value : BindingId) (counts : Bool) → kind_answers c kind → Calls old new p kind n call value → n ≡ old.calls + one_more c 0
    → call_met c p ≡ (if counts then p ∷ [] else []) → after ≡ before ++ (if counts then call ∷ [] else []) → NumbersTerm old new before after c p value
call_numbers old new before after c kind p n call value counts how k count met more = record {
  grows = record {
    extends = k.extends;
    only = λ q d. subst (λ ps. Contains (paths_of old.bindings) q ⊎ Contains ps q) (sym (how p).0) (k.only q d);
    all = λ q d. ⊎_elim (λ e. subst (Contains (paths_of new.bindings)) (sym e) (contains_there (paths_of new.bindings) call.0 p k.found)) (λ e. subst (Contains (paths_of new.bindings)) (sym e) (contains_there (paths_of new.bindings) value.0 (value_by kind p) k.value))
        (value_of_kind kind p q (subst (λ ps. Contains ps q) (how p).0 d));
    ordered = λ qs x. joined qs x counts more ∙ ap (λ cs. map (at qs) before ++ cs) (sym met);
    there = λ h. behind_it counts more h;
    calls = k.calls ∙ count;
    lists = λ qs x. ap (map (at qs)) k.lists ∙ map-append (at qs) old.lists (listed_by kind call) ∙ ap (λ ls. map (at qs) old.lists ++ ls) (listed_at kind qs call p (at_kept (paths_of new.bindings) qs call p x k.found) ∙ sym (how p).2);
  };
  found = k.value ∙ ap Some (sym (how p).1);
}
  where
    joined : (qs : List Path) → Extends (paths_of new.bindings) qs → (b : Bool) → after ≡ before ++ (if b then call ∷ [] else []) → map (at qs) after ≡ map (at qs) before ++ (if b then p ∷ [] else [])
    joined qs x true e = ap (map (at qs)) e ∙ map-append (at qs) before (call ∷ []) ∙ ap (λ q. map (at qs) before ++ q ∷ []) (at_kept (paths_of new.bindings) qs call p x k.found)
    joined qs x false e = ap (map (at qs)) e ∙ map-append (at qs) before []

    behind_it : (b : Bool) → after ≡ before ++ (if b then call ∷ [] else []) → AllByRecursion (IsThere (paths_of old.bindings)) before → AllByRecursion (IsThere (paths_of new.bindings)) after
    behind_it true e h = subst (AllByRecursion (IsThere (paths_of new.bindings))) (sym e) (all_there_push (paths_of new.bindings) before call (all_there_kept (paths_of old.bindings) (paths_of new.bindings) before k.extends h) (p, k.found))
    behind_it false e h = subst (AllByRecursion (IsThere (paths_of new.bindings))) (sym (e ∙ append-nil before)) (all_there_kept (paths_of old.bindings) (paths_of new.bindings) before k.extends h)

-- of a term that is called so
as_called : (terms : List Term) (term : TermId) (bs : List BindingId) (c : Calling) (old new : Numbered) (before after : List BindingId) (b value : BindingId) (env : Environment) → env.terms ≡ terms → making_in terms term ≡ MakesNothing → calling env term ≡ c → b ≡ value
    → NumbersTerm old new before after c (path.Called term (at_all (paths_of old.bindings) bs) (instance_of c old.calls)) value → NumbersTerm old new before after (calling env term) (call_path env term (at_all (paths_of old.bindings) bs) old.calls) b
as_called terms term bs c old new before after b value env same none is of h =
    let making_is : making env term ≡ MakesNothing = ap (λ ts. making_in ts term) same ∙ none in
    subst (λ mk. NumbersTerm old new before after (calling env term) (term_path mk term (at_all (paths_of old.bindings) bs) (instance_of (calling env term) old.calls)) b) (sym making_is)
    (subst (λ d. NumbersTerm old new before after d (path.Called term (at_all (paths_of old.bindings) bs) (instance_of d old.calls)) b) (sym is)
    (subst (NumbersTerm old new before after c (path.Called term (at_all (paths_of old.bindings) bs) (instance_of c old.calls))) (sym of) h))

not_both : (b : Bool) → b ≡ true → b ≡ false → ⊥
not_both true e f = cc
not_both false e f = cc

one_more_is : (n : ℕ) → suc n ≡ n + 1
one_more_is n = omega arith

none_more : (n : ℕ) → n ≡ n + 0
none_more n = omega arith

-- an impure call
pub impure_given : {E : Type 0} (r : Result BindingId E) (old new : Numbered) (before after : List BindingId) (terms : List Term) (term : TermId) (t : Term) (often : ReturnKind) (bs : List BindingId) (call value : BindingId)
    → IsSomeAnd (slice_get terms term.0) (λ (x : Term). IsBuiltKind x.kind) → making_in terms term ≡ MakesNothing → t ≡ get_or terms term.0 t → is_pure t.kind ≡ false → often ≡ kind_of t.kind
    → Calls old new (next_call old term bs) often (suc old.calls) call value → IfOk r (λ b. b ≡ value) → OnOk r (after ≡ before ++ call ∷ []) → IfOk r (TermGiven terms term bs old new before after)
impure_given (Err x) old new before after terms term t often bs call value h none here pure of k is more = tt
impure_given (Ok b) old new before after terms term t often bs call value h none here pure of k is more = λ env same. pick env same (called_in terms term t h none here env same)
  where
    pick : (env : Environment) → env.terms ≡ terms → IsCalled t.kind (calling env term) → NumbersTerm old new before after (calling env term) (call_path env term (at_all (paths_of old.bindings) bs) old.calls) b
    pick env same (by_turns callee impure called) =
        let c = ByTurns callee (kind_of t.kind) in
        as_called terms term bs c old new before after b value env same none called is
        (call_numbers old new before after c (kind_of t.kind) (next_call old term bs) (suc old.calls) call value true (turn_answers callee (kind_of t.kind)) (subst (λ f. Calls old new (next_call old term bs) f (suc old.calls) call value) of k) (one_more_is old.calls) refl more)
    pick env same (by_cases callee is_so called) = absurd (not_both (is_pure t.kind) is_so pure)

pure_met : (callee : Callee) (kind : ReturnKind) (p : Path) → call_met (ByCases callee kind) p ≡ (if pure_counts kind p then p ∷ [] else [])
pure_met callee return_kind.Plain p = refl
pure_met callee return_kind.Option p = refl
pure_met callee return_kind.Iterator p = refl

-- a pure one
pub pure_given : {E : Type 0} (r : Result BindingId E) (old new : Numbered) (before after : List BindingId) (terms : List Term) (term : TermId) (t : Term) (often : ReturnKind) (counts : Bool) (bs : List BindingId) (call value : BindingId)
    → IsSomeAnd (slice_get terms term.0) (λ (x : Term). IsBuiltKind x.kind) → making_in terms term ≡ MakesNothing → t ≡ get_or terms term.0 t → is_pure t.kind ≡ true → often ≡ kind_of t.kind
    → Calls old new (same_call old term bs) often old.calls call value → counts ≡ pure_counts often (at (paths_of new.bindings) call) → IfOk r (λ b. b ≡ value) → OnOk r (after ≡ before ++ (if counts then call ∷ [] else [])) → IfOk r (TermGiven terms term bs old new before after)
pure_given (Err x) old new before after terms term t often counts bs call value h none here pure of k so is more = tt
pure_given (Ok b) old new before after terms term t often counts bs call value h none here pure of k so is more = λ env same. pick env same (called_in terms term t h none here env same)
  where
    pick : (env : Environment) → env.terms ≡ terms → IsCalled t.kind (calling env term) → NumbersTerm old new before after (calling env term) (call_path env term (at_all (paths_of old.bindings) bs) old.calls) b
    pick env same (by_turns callee impure called) = absurd (not_both (is_pure t.kind) pure impure)
    pick env same (by_cases callee is_so called) =
        let c = ByCases callee (kind_of t.kind) in
        let p = same_call old term bs in
        let told : counts ≡ pure_counts (kind_of t.kind) p = so ∙ ap (pure_counts often) (at_get (paths_of new.bindings) call.0 p k.found) ∙ ap (λ q. pure_counts q p) of in
        as_called terms term bs c old new before after b value env same none called is
        (call_numbers old new before after c (kind_of t.kind) p old.calls call value counts (case_answers callee (kind_of t.kind)) (subst (λ f. Calls old new p f old.calls call value) of k) (none_more old.calls)
        (pure_met callee (kind_of t.kind) p ∙ ap (λ (x : Bool). if x then p ∷ [] else []) (sym told)) more)

-- a call after its arguments, if it was added
pub given_call : {E : Type 0} (r : Result BindingId E) (terms : List Term) (variables : Variables) (old mid new : Numbered) (before middle after : List BindingId) (e : Expr) (ty : TypeId) (term : TermId) (es : Exprs) (bs : List BindingId) → e ≡ expr.Term ty term es
    → AllGiven terms variables old mid before middle es bs
    → IfOk r (λ b. (env : Environment) → env.terms ≡ terms → NumbersTerm mid new middle after (calling env term) (call_path env term (at_all (paths_of mid.bindings) bs) mid.calls) b) → IfOk r (Given terms variables old new before after e)
given_call (Err x) terms variables old mid new before middle after e ty term es bs is g h = tt
given_call (Ok b) terms variables old mid new before middle after e ty term es bs is g h =
    λ env places t s. subst (λ d. NumbersExpr env places old new before after d b) (sym is) (call_behind env places old mid new before middle after ty term es bs b (g env places t s) (h env t))

-- ---- expressions in order

impure_push : (env : Environment) (es : List Expr) (e : Expr) → impure_all env (exprs_of (es ++ e ∷ [])) ≡ impure_all env (exprs_of es) + impure env e
impure_push env [] e = omega arith
impure_push env (x ∷ es) e = ap (λ n. impure env x + n) (impure_push env es e) ∙ assoc (impure env x) (impure_all env (exprs_of es)) (impure env e)
  where
    assoc : (a b c : ℕ) → a + (b + c) ≡ (a + b) + c
    assoc a b c = omega arith

pub behind : (n k l : ℕ) → (n + k) + l ≡ n + (k + l)
behind n k l = omega arith

calls_push : (env : Environment) (places : Places) (es : List Expr) (e : Expr) (n : ℕ) → exprs_calls env (exprs_of (es ++ e ∷ [])) places n ≡ exprs_calls env (exprs_of es) places n ++ expr_calls env e places (n + impure_all env (exprs_of es))
calls_push env places [] e n = append-nil (expr_calls env e places n) ∙ ap (expr_calls env e places) (none n)
  where
    none : (k : ℕ) → k ≡ k + 0
    none k = omega arith
calls_push env places (x ∷ es) e n =
    ap (λ cs. expr_calls env x places n ++ cs) (calls_push env places es e (n + impure env x) ∙ ap (λ k. exprs_calls env (exprs_of es) places (n + impure env x) ++ expr_calls env e places k) (behind n (impure env x) (impure_all env (exprs_of es))))
    ∙ sym (append_assoc (expr_calls env x places n) (exprs_calls env (exprs_of es) places (n + impure env x)) (expr_calls env e places (n + impure_all env (exprs_of (x ∷ es)))))

lists_push : (env : Environment) (places : Places) (es : List Expr) (e : Expr) (n : ℕ) → exprs_lists env (exprs_of (es ++ e ∷ [])) places n ≡ exprs_lists env (exprs_of es) places n ++ expr_lists env e places (n + impure_all env (exprs_of es))
lists_push env places [] e n = append-nil (expr_lists env e places n) ∙ ap (expr_lists env e places) (none n)
  where
    none : (k : ℕ) → k ≡ k + 0
    none k = omega arith
lists_push env places (x ∷ es) e n =
    ap (λ ls. expr_lists env x places n ++ ls) (lists_push env places es e (n + impure env x) ∙ ap (λ k. exprs_lists env (exprs_of es) places (n + impure env x) ++ expr_lists env e places k) (behind n (impure env x) (impure_all env (exprs_of es))))
    ∙ sym (append_assoc (expr_lists env x places n) (exprs_lists env (exprs_of es) places (n + impure env x)) (expr_lists env e places (n + impure_all env (exprs_of (x ∷ es)))))

paths_push : (env : Environment) (places : Places) (es : List Expr) (e : Expr) (n : ℕ) → exprs_paths env (exprs_of (es ++ e ∷ [])) places n ≡ exprs_paths env (exprs_of es) places n ++ expr_paths env e places (n + impure_all env (exprs_of es))
paths_push env places [] e n = append-nil (expr_paths env e places n) ∙ ap (expr_paths env e places) (none n)
  where
    none : (k : ℕ) → k ≡ k + 0
    none k = omega arith
paths_push env places (x ∷ es) e n =
    ap (λ cs. expr_paths env x places n ++ cs) (paths_push env places es e (n + impure env x) ∙ ap (λ k. exprs_paths env (exprs_of es) places (n + impure env x) ++ expr_paths env e places k) (behind n (impure env x) (impure_all env (exprs_of es))))
    ∙ sym (append_assoc (expr_paths env x places n) (exprs_paths env (exprs_of es) places (n + impure env x)) (expr_paths env e places (n + impure_all env (exprs_of (x ∷ es)))))

all_kept : (ps qs : List Path) (bs : List BindingId) (xs : Paths) → Extends ps qs → AllAt ps bs xs → AllAt qs bs xs
all_kept ps qs [] NoPath x h = tt
all_kept ps qs (b ∷ bs) (APath p xs) x h = (x.kept b.0 p h.0, all_kept ps qs bs xs x h.1)
all_kept ps qs [] (APath p xs) x h = absurd h
all_kept ps qs (b ∷ bs) NoPath x h = absurd h

all_push : (env : Environment) (places : Places) (ps : List Path) (bs : List BindingId) (es : List Expr) (b : BindingId) (e : Expr) (n : ℕ) → AllAt ps bs (paths env (exprs_of es) places n) → slice_get ps b.0 ≡ Some (path_of env e places (n + impure_all env (exprs_of es)))
    → AllAt ps (bs ++ b ∷ []) (paths env (exprs_of (es ++ e ∷ [])) places n)
all_push env places ps [] [] b e n h k = (subst (λ m. slice_get ps b.0 ≡ Some (path_of env e places m)) (none n) k, tt)
  where
    none : (k : ℕ) → k + 0 ≡ k
    none k = omega arith
all_push env places ps (c ∷ bs) (x ∷ es) b e n h k =
    (h.0, all_push env places ps bs es b e (n + impure env x) h.1 (subst (λ m. slice_get ps b.0 ≡ Some (path_of env e places m)) (sym (behind n (impure env x) (impure_all env (exprs_of es)))) k))
all_push env places ps [] (x ∷ es) b e n h k = absurd h
all_push env places ps (c ∷ bs) [] b e n h k = absurd h

pub gives_none : (env : Environment) (places : Places) (n : Numbered) (bs : List BindingId) → NumbersExprs env places n n bs bs NoExpr []
gives_none env places n bs = record { grows = grows_self n bs; found = tt }

gives_push : (env : Environment) (places : Places) (old mid new : Numbered) (before middle after : List BindingId) (es : List Expr) (e : Expr) (bs : List BindingId) (b : BindingId) → NumbersExprs env places old mid before middle (exprs_of es) bs → NumbersExpr env places mid new middle after e b
    → NumbersExprs env places old new before after (exprs_of (es ++ e ∷ [])) (bs ++ b ∷ [])
gives_push env places old mid new before middle after es e bs b g h = record {
  grows = rw (paths_push env places es e old.calls, calls_push env places es e old.calls, lists_push env places es e old.calls, impure_push env es e)
      (grows_then old mid new before middle after (exprs_paths env (exprs_of es) places old.calls) (expr_paths env e places n) (exprs_calls env (exprs_of es) places old.calls) (expr_calls env e places n) (exprs_lists env (exprs_of es) places old.calls) (expr_lists env e places n) (impure_all env (exprs_of es)) (impure env e) g.grows
      (subst (λ m. Grows mid new middle after (expr_paths env e places m) (expr_calls env e places m) (expr_lists env e places m) (impure env e)) g.grows.calls h.grows));
  found = all_push env places (paths_of new.bindings) bs es b e old.calls (all_kept (paths_of mid.bindings) (paths_of new.bindings) bs (paths env (exprs_of es) places old.calls) h.grows.extends g.found)
      (subst (λ m. slice_get (paths_of new.bindings) b.0 ≡ Some (path_of env e places m)) g.grows.calls h.found);
}
  where
    n : ℕ
    n = old.calls + impure_all env (exprs_of es)

pub stand_kept : (ps qs : List Path) (variables : Variables) (places : Places) → Extends ps qs → Stand ps variables places → Stand qs variables places
stand_kept ps qs variables places x s = record { by = λ y. kept (held variables y) (places y) (s.by y) }
  where
    kept : (o : Option BindingId) (q : Option Path) → StandsAt ps o q → StandsAt qs o q
    kept None None h = tt
    kept (Some b) (Some p) h = x.kept b.0 p h
    kept None (Some p) h = absurd h
    kept (Some b) None h = absurd h

-- the next expression of the code's list
pub given_more : (terms : List Term) (variables : Variables) (old mid new : Numbered) (before middle after : List BindingId) (es : List CodeExpr) (i : ℕ) (x : CodeExpr) (bs items : List BindingId) (b : BindingId) → i < length es → x ≡ get_or es i x
    → AllGiven terms variables old mid before middle (exprs_of (map seen (take i es))) bs → Given terms variables mid new middle after (seen x) b → items ≡ bs ++ b ∷ []
    → AllGiven terms variables old new before after (exprs_of (map seen (take (i + 1) es))) items
given_more terms variables old mid new before middle after es i x bs items b lt is g h more env places t s =
    let first = g env places t s in
    subst (NumbersExprs env places old new before after (exprs_of (map seen (take (i + 1) es)))) (sym more)
    (subst (λ xs. NumbersExprs env places old new before after (exprs_of xs) (bs ++ b ∷ [])) (sym (map_more seen es i x lt ∙ ap (λ y. map seen (take i es) ++ seen y ∷ []) (sym is)))
    (gives_push env places old mid new before middle after (map seen (take i es)) (seen x) bs b first (h env places t (stand_kept (paths_of old.bindings) (paths_of mid.bindings) variables places first.grows.extends s))))

-- after the last one
pub given_over : (terms : List Term) (variables : Variables) (old new : Numbered) (before after : List BindingId) (es : List CodeExpr) (i : ℕ) (bs : List BindingId) → length es ≤ i
    → AllGiven terms variables old new before after (exprs_of (map seen (take i es))) bs → AllGiven terms variables old new before after (exprs_of (map seen es)) bs
given_over terms variables old new before after es i bs le h = subst (λ xs. AllGiven terms variables old new before after (exprs_of (map seen xs)) bs) (take_all i es le) h

known_in : (scope : List ℕ) (es : List Expr) (i : ℕ) (e : Expr) → AreInScope scope (exprs_of es) → slice_get es i ≡ Some e → IsInScope scope e
known_in scope [] i e h k = cc
known_in scope (x ∷ es) zero e h k = subst (IsInScope scope) (some_same x e k) h.0
known_in scope (x ∷ es) (suc i) e h k = known_in scope es i e h.1 k

terms_in : (terms : List Term) (es : List Expr) (i : ℕ) (e : Expr) → AllHaveBuiltTerms terms (exprs_of es) → slice_get es i ≡ Some e → HasBuiltTerms terms e
terms_in terms [] i e h k = cc
terms_in terms (x ∷ es) zero e h k = subst (HasBuiltTerms terms) (some_same x e k) h.0
terms_in terms (x ∷ es) (suc i) e h k = terms_in terms es i e h.1 k

seen_at : (es : List CodeExpr) (i : ℕ) (x : CodeExpr) → i < length es → x ≡ get_or es i x → slice_get (map seen es) i ≡ Some (seen x)
seen_at es i x lt is = slice_get-get_or (map seen es) i (seen x) within ∙ ap Some (get_or-map seen es i x (seen x) lt ∙ ap seen (sym is))
  where
    within : i < length (map seen es)
    within = omega (arith, length-map es seen)

-- an expression of the code's list
pub known_at : (scope : List ℕ) (es : List CodeExpr) (i : ℕ) (x : CodeExpr) → AreInScope scope (exprs_of (map seen es)) → i < length es → x ≡ get_or es i x → IsInScope scope (seen x)
known_at scope es i x h lt is = known_in scope (map seen es) i (seen x) h (seen_at es i x lt is)

pub terms_at : (terms : List Term) (es : List CodeExpr) (i : ℕ) (x : CodeExpr) → AllHaveBuiltTerms terms (exprs_of (map seen es)) → i < length es → x ≡ get_or es i x → HasBuiltTerms terms (seen x)
terms_at terms es i x h lt is = terms_in terms (map seen es) i (seen x) h (seen_at es i x lt is)

-- ---- the numbers of variables

-- the paths at these numbers
abbrev pub places_of : List Path → Variables → Places
places_of ps variables x = path_at ps (held variables x)

stands_there : (ps : List Path) (o : Option BindingId) → ((b : BindingId) → o ≡ Some b → IsThere ps b) → StandsAt ps o (path_at ps o)
stands_there ps None h = tt
stands_there ps (Some b) h = let there = h b refl in there.1 ∙ ap Some (sym (at_get ps b.0 there.0 there.1))

pub there_stand : (ps : List Path) (variables : Variables) → AreThere ps variables → Stand ps variables (places_of ps variables)
there_stand ps variables h = record { by = λ x. stands_there ps (held variables x) (h.by x) }

there_by : (ps : List Path) (o : Option BindingId) (q : Option Path) (b : BindingId) → StandsAt ps o q → o ≡ Some b → IsThere ps b
there_by ps None q b s e = cc
there_by ps (Some c) (Some p) b s e = (p, subst (λ (d : BindingId). slice_get ps d.0 ≡ Some p) (some_same c b e) s)
there_by ps (Some c) None b s e = absurd s

-- numbers that stand for paths are there
pub stand_there : (ps : List Path) (variables : Variables) (places : Places) → Stand ps variables places → AreThere ps variables
stand_there ps variables places s = record { by = λ x b e. there_by ps (held variables x) (places x) b (s.by x) e }

-- so after expressions
pub there_behind : (terms : List Term) (variables : Variables) (old new : Numbered) (before after : List BindingId) (es : Exprs) (bs : List BindingId) → AreThere (paths_of old.bindings) variables → AllGiven terms variables old new before after es bs → AreThere (paths_of new.bindings) variables
there_behind terms variables old new before after es bs h g =
    let more = (g (env_of terms) (places_of (paths_of old.bindings) variables) refl (there_stand (paths_of old.bindings) variables h)).grows.extends in
    record { by = λ x b e. there_kept (paths_of old.bindings) (paths_of new.bindings) b more (h.by x b e) }

-- the numbers of expressions are there
pub numbers_there : (terms : List Term) (variables : Variables) (old new : Numbered) (before after : List BindingId) (es : Exprs) (bs : List BindingId) → AreThere (paths_of old.bindings) variables → AllGiven terms variables old new before after es bs → AllByRecursion (IsThere (paths_of new.bindings)) bs
numbers_there terms variables old new before after es bs h g =
    let places = places_of (paths_of old.bindings) variables in
    let n = g (env_of terms) places refl (there_stand (paths_of old.bindings) variables h) in
    all_there (paths_of new.bindings) bs (paths (env_of terms) es places old.calls) n.found
