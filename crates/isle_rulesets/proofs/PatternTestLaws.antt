-- What is gathered has the tests of patterns, one pattern after another.
use Rattle.std.proofs.Common.{◌≡◌, inl, inr, ⊎_elim, ℕ, ◌<◌, ◌≤◌, ◌+◌, suc, ℤ, List, [], ◌∷◌, ◌++◌, length, map, drop, get_or, Bool, Result, Ok, Err, refl, sym, ap, ◌∙◌, subst, arith, append_assoc, append-nil, Some}
use Rattle.std.specs.Prelude.{Contains, All, OnOk, slice_get}
use Rattle.std.specs.List.{AllByRecursion}
use Rattle.std.proofs.lemmas.List.{drop_more, length-map, get_or-map, drop_all}
use Rattle.std.proofs.lemmas.List.Elements.{All-from_recursion, Contains-append_left, Contains-append_right, Contains-append_cases}
use Rattle.isle_core.specs.declared.BindingId.{BindingId}
use Rattle.isle_core.specs.declared.Sym.{Sym}
use Rattle.isle_core.specs.declared.TypeId.{TypeId}
use Rattle.isle_core.specs.declared.VarId.{VarId}
use Rattle.isle_core.specs.declared.TermId.{TermId}
use Rattle.isle_core.specs.declared.types.Term.{Term}
use Rattle.isle_core.specs.declared.rules.Pattern.{Pattern as CodePattern}
use Rattle.isle_core.specs.declared.rule_sets.Constraint.{Constraint}
use Rattle.isle_core.specs.declared.rule_sets.Constraint.TheVariants as constraint
use Rattle.isle_core.specs.Opening.{opening, part_path}
use Rattle.isle_core.specs.Pattern as pure
use Rattle.isle_core.specs.Pattern.{Pattern, Patterns, APattern}
use Rattle.isle_core.specs.Path.{Path, Arg, at, paths_of}
use Rattle.isle_core.specs.RulePaths.{opening_paths, pattern_paths, parts_paths, each_paths, args_paths}
use Rattle.isle_core.specs.Tests.{Test, Is, Places, no_places, met_tests, met_after, opening_tests, tests, parts_tests, each_tests, after, after_parts, after_each, args_tests, args_after}
use Rattle.isle_core.specs.RuleViews.{pattern, patterns_of}
use Rattle.isle_core.specs.Rule.{Environment}
use Rattle.isle_core.specs.BuiltRule.{IsBuiltPattern, AreBuiltPatterns, count}
use Rattle.isle_core.proofs.Contained.{head_contained, contained_cases, none_contained}
use Rattle.isle_rulesets.specs.declared.pattern_tests.PatternTests.{PatternTests}
use Rattle.isle_rulesets.specs.declared.opening.Opened.{Opened}
use Rattle.isle_rulesets.specs.declared.opening.Opened.TheVariants as opened
use Rattle.isle_rulesets.specs.Keys.{IsThere}
use Rattle.isle_rulesets.specs.Met.{opening_lists, pattern_lists, parts_lists, each_lists, args_lists}
use Rattle.isle_rulesets.specs.Opened.{opened_part, IsOpenedThere, Opens}
use Rattle.isle_rulesets.specs.Numbering.{Numbered, Extends, Joins, Numbers}
use Rattle.isle_rulesets.specs.PatternTests.{HasTests, Reads, Takes, TakesEach, TakesParts, TakesTerm, TakesArguments, NumbersPatterns}
use Rattle.isle_rulesets.proofs.PlacedPaths.{meets_none, meets_then, meets_same, extends_self, extends_more, at_kept, there_kept, contains_there, contains_kept}

-- ---- paths that join

pub joins_self : (n : Numbered) → Joins n n [] []
joins_self n = record { extends = extends_self (paths_of n.bindings); only = λ p c. inl c; all = λ p c. absurd (none_contained p c); calls = refl; lists = meets_none n }

pub joins_then : (a b c : Numbered) (ps qs ls ms : List Path) → Joins a b ps ls → Joins b c qs ms → Joins a c (ps ++ qs) (ls ++ ms)
joins_then a b c ps qs ls ms g h = record {
  extends = extends_more (paths_of a.bindings) (paths_of b.bindings) (paths_of c.bindings) g.extends h.extends;
  only = λ p d. ⊎_elim (λ e. ⊎_elim (λ f. inl f) (λ f. inr (Contains-append_left ps qs p f)) (g.only p e)) (λ e. inr (Contains-append_right ps qs p e)) (h.only p d);
  all = λ p d. ⊎_elim (λ e. contains_kept (paths_of b.bindings) (paths_of c.bindings) p h.extends (g.all p e)) (λ e. h.all p e) (Contains-append_cases ps qs p d);
  calls = h.calls ∙ g.calls;
  lists = meets_then a b c ls ms h.extends g.lists h.lists;
}

pub joins_one : (old new : Numbered) (p : Path) (b : BindingId) → Numbers old new p b → Joins old new (p ∷ []) []
joins_one old new p b n = record {
  extends = n.extends;
  only = λ q c. ⊎_elim (λ d. inl d) (λ e. inr (subst (Contains (p ∷ [])) (sym e) (head_contained p []))) (n.only q c);
  all = λ q c. ⊎_elim (λ e. subst (Contains (paths_of new.bindings)) e (contains_there (paths_of new.bindings) b.0 p n.found)) (λ d. absurd (none_contained q d)) (contained_cases p [] q c);
  calls = n.calls;
  lists = meets_same old new n.lists;
}

-- ---- one step after another

pub reads_self : (n : Numbered) (d : PatternTests) → Reads n n d d [] [] (λ places. places) (λ places. [])
reads_self n d = record { joins = joins_self n; gathers = λ qs x places ts h. subst (λ us. HasTests qs places us d) (sym (append-nil ts)) h }

pub reads_then : (a b c : Numbered) (d e f : PatternTests) (ps qs ls ms : List Path) (behind then : Places → Places) (more others : Places → List Test) → Reads a b d e ps ls behind more → Reads b c e f qs ms then others
    → Reads a c d f (ps ++ qs) (ls ++ ms) (λ places. then (behind places)) (λ places. more places ++ others (behind places))
reads_then a b c d e f ps qs ls ms behind then more others g h = record {
  joins = joins_then a b c ps qs ls ms g.joins h.joins;
  gathers = λ rs x places ts k. subst (λ us. HasTests rs (then (behind places)) us f) (append_assoc ts (more places) (others (behind places)))
      (h.gathers rs x (behind places) (ts ++ more places) (g.gathers rs (extends_more (paths_of b.bindings) (paths_of c.bindings) rs h.joins.extends x) places ts k));
}

pub reads_behind : (a b c : Numbered) (d e : PatternTests) (p : Path) (n : BindingId) (ps ls : List Path) (behind : Places → Places) (more : Places → List Test) → Numbers a b p n → Reads b c d e ps ls behind more → Reads a c d e (p ∷ ps) ls behind more
reads_behind a b c d e p n ps ls behind more g h = record { joins = joins_then a b c (p ∷ []) ps [] ls (joins_one a b p n g) h.joins; gathers = h.gathers }

-- what the code says of a step on the path of a number
abbrev pub Steps : PatternTests → PatternTests → BindingId → (Path → Places → Places) → (Path → Places → List Test) → Type 0
Steps d e b behind more = (ps : List Path) (places : Places) (ts : List Test) → HasTests ps places ts d → HasTests ps (behind (at ps b) places) (ts ++ more (at ps b) places) e

pub reads_step : (n : Numbered) (d e : PatternTests) (b : BindingId) (p : Path) (behind : Path → Places → Places) (more : Path → Places → List Test) → slice_get (paths_of n.bindings) b.0 ≡ Some p → Steps d e b behind more → Reads n n d e [] [] (behind p) (more p)
reads_step n d e b p behind more there h = record {
  joins = joins_self n;
  gathers = λ qs x places ts g. subst (λ q. HasTests qs (behind q places) (ts ++ more q places) e) (at_kept (paths_of n.bindings) qs b p x there) (h qs places ts g);
}

-- ---- one pattern

-- what the code says of a pattern
abbrev pub TakesIn : List Term → Numbered → Numbered → PatternTests → PatternTests → Pattern → BindingId → Type 0
TakesIn terms old new d e q b = (env : Environment) → env.terms ≡ terms → Takes env old new d e q b

pub takes_var : {T E : Type 0} (r : Result T E) (terms : List Term) (n : Numbered) (d e : PatternTests) (q : Pattern) (b : BindingId) (ty : TypeId) (x : VarId) → q ≡ pure.Var ty x
    → OnOk r (Steps d e b (λ p places. met_after (places x.0) x.0 p places) (λ p places. met_tests (places x.0) p)) → OnOk r (TakesIn terms n n d e q b)
takes_var (Err o) terms n d e q b ty x is h = tt
takes_var (Ok o) terms n d e q b ty x is h = subst (λ s. TakesIn terms n n d e s b) (sym is) (λ env same p there. reads_step n d e b p (λ r places. met_after (places x.0) x.0 r places) (λ r places. met_tests (places x.0) r) there h)

pub takes_test : {T E : Type 0} (r : Result T E) (terms : List Term) (n : Numbered) (d e : PatternTests) (q : Pattern) (b : BindingId) (c : Constraint) → ((env : Environment) (p : Path) → Reads n n d e [] [] (λ places. places) (λ places. Is p c ∷ []) → Reads n n d e (pattern_paths env q p) (pattern_lists env q p) (after env q p) (tests env q p))
    → OnOk r (Steps d e b (λ p places. places) (λ p places. Is p c ∷ [])) → OnOk r (TakesIn terms n n d e q b)
takes_test (Err o) terms n d e q b c is h = tt
takes_test (Ok o) terms n d e q b c is h = λ env same p there. is env p (reads_step n d e b p (λ p places. places) (λ p places. Is p c ∷ []) there h)

pub takes_bool : {T E : Type 0} (r : Result T E) (terms : List Term) (n : Numbered) (d e : PatternTests) (q : Pattern) (b : BindingId) (v : Bool) → q ≡ pure.ConstBool v → OnOk r (Steps d e b (λ p places. places) (λ p places. Is p (constraint.ConstBool v) ∷ []))
    → OnOk r (TakesIn terms n n d e q b)
takes_bool r terms n d e q b v is h = takes_test r terms n d e q b (constraint.ConstBool v) (λ env p g. subst (λ s. Reads n n d e (pattern_paths env s p) (pattern_lists env s p) (after env s p) (tests env s p)) (sym is) g) h

pub takes_int : {T E : Type 0} (r : Result T E) (terms : List Term) (n : Numbered) (d e : PatternTests) (q : Pattern) (b : BindingId) (ty : TypeId) (v w : ℤ) → q ≡ pure.ConstInt ty v → OnOk r (Steps d e b (λ p places. places) (λ p places. Is p (constraint.ConstInt w ty) ∷ [])) → w ≡ v
    → OnOk r (TakesIn terms n n d e q b)
takes_int r terms n d e q b ty v w is h same =
    takes_test r terms n d e q b (constraint.ConstInt w ty) (λ env p g. subst (λ s. Reads n n d e (pattern_paths env s p) (pattern_lists env s p) (after env s p) (tests env s p)) (ap (pure.ConstInt ty) same ∙ sym is) g) h

pub takes_prim : {T E : Type 0} (r : Result T E) (terms : List Term) (n : Numbered) (d e : PatternTests) (q : Pattern) (b : BindingId) (ty : TypeId) (v : Sym) → q ≡ pure.ConstPrim ty v → OnOk r (Steps d e b (λ p places. places) (λ p places. Is p (constraint.ConstPrim v) ∷ []))
    → OnOk r (TakesIn terms n n d e q b)
takes_prim r terms n d e q b ty v is h = takes_test r terms n d e q b (constraint.ConstPrim v) (λ env p g. subst (λ s. Reads n n d e (pattern_paths env s p) (pattern_lists env s p) (after env s p) (tests env s p)) (sym is) g) h

pub takes_wildcard : (terms : List Term) (n : Numbered) (d : PatternTests) (q : Pattern) (b : BindingId) (ty : TypeId) → q ≡ pure.Wildcard ty → TakesIn terms n n d d q b
takes_wildcard terms n d q b ty is env same p there = subst (λ s. Reads n n d d (pattern_paths env s p) (pattern_lists env s p) (after env s p) (tests env s p)) (sym is) (reads_self n d)

-- a variable that is met, and then what stands after the `@`
pub takes_bind : {T E : Type 0} (r : Result T E) (terms : List Term) (old new : Numbered) (d mid e : PatternTests) (q : Pattern) (b : BindingId) (ty : TypeId) (x : VarId) (inner : Pattern) → q ≡ pure.BindPattern ty x inner
    → Steps d mid b (λ p places. met_after (places x.0) x.0 p places) (λ p places. met_tests (places x.0) p) → OnOk r (TakesIn terms old new mid e inner b) → OnOk r (TakesIn terms old new d e q b)
takes_bind (Err o) terms old new d mid e q b ty x inner is h k = tt
takes_bind (Ok o) terms old new d mid e q b ty x inner is h k =
    subst (λ s. TakesIn terms old new d e s b) (sym is)
    (λ env same p there.
    reads_then old old new d mid e [] (pattern_paths env inner p) [] (pattern_lists env inner p) (λ places. met_after (places x.0) x.0 p places) (after env inner p) (λ places. met_tests (places x.0) p) (tests env inner p)
    (reads_step old d mid b p (λ r places. met_after (places x.0) x.0 r places) (λ r places. met_tests (places x.0) r) there h) (k env same p there))

-- what the code says of several patterns on one path
abbrev pub TakesEachIn : List Term → Numbered → Numbered → PatternTests → PatternTests → Patterns → BindingId → Type 0
TakesEachIn terms old new d e qs b = (env : Environment) → env.terms ≡ terms → TakesEach env old new d e qs b

pub takes_and : {T E : Type 0} (r : Result T E) (terms : List Term) (old new : Numbered) (d e : PatternTests) (q : Pattern) (b : BindingId) (ty : TypeId) (qs : Patterns) → q ≡ pure.And ty qs → OnOk r (TakesEachIn terms old new d e qs b) → OnOk r (TakesIn terms old new d e q b)
takes_and (Err o) terms old new d e q b ty qs is h = tt
takes_and (Ok o) terms old new d e q b ty qs is h = subst (λ s. TakesIn terms old new d e s b) (sym is) h

-- an environment of these terms and no more: what is known in each is so in it
abbrev pub env_of : List Term → Environment
env_of terms = record { types = record { syms = []; types = []; consts = [] }; terms = terms; rules = []; converters = [] }

-- what the code says of what a term takes apart
abbrev pub TakesTermIn : List Term → Numbered → Numbered → PatternTests → PatternTests → TermId → Patterns → BindingId → Type 0
TakesTermIn terms old new d e term qs b = (env : Environment) → env.terms ≡ terms → TakesTerm env old new d e term qs b

pub takes_term : {T E : Type 0} (r : Result T E) (terms : List Term) (old new : Numbered) (d e : PatternTests) (q : Pattern) (b : BindingId) (ty : TypeId) (term : TermId) (qs : Patterns) → q ≡ pure.Term ty term qs
    → OnOk r (TakesTermIn terms old new d e term qs b) → OnOk r (TakesIn terms old new d e q b)
takes_term (Err o) terms old new d e q b ty term qs is h = tt
takes_term (Ok o) terms old new d e q b ty term qs is h = λ env same p there. subst (λ s. Reads old new d e (pattern_paths env s p) (pattern_lists env s p) (after env s p) (tests env s p)) (sym is) (h env same p there)

-- ---- what a term takes apart

-- the parts stand where this says
abbrev pub PartsStand : Environment → Numbered → TermId → Path → Opened → Type 0
PartsStand env now term p o = (ps : List Path) → Extends (paths_of now.bindings) ps → (i : ℕ) → opened_part ps o i ≡ part_path (opening env term) i p

-- wherever the rest of the parts is taken, the whole was
pub record OpenedSoFar (terms : List Term) (old now : Numbered) (d e : PatternTests) (term : TermId) (all rest : Patterns) (i : ℕ) (b : BindingId) (o : Opened) : Type 0 where
  pub extends : Extends (paths_of old.bindings) (paths_of now.bindings)
  pub there : IsOpenedThere (paths_of now.bindings) o
  pub parts : (env : Environment) → env.terms ≡ terms → (p : Path) → slice_get (paths_of old.bindings) b.0 ≡ Some p → PartsStand env now term p o
  pub whole : (env : Environment) → env.terms ≡ terms → (p : Path) → slice_get (paths_of old.bindings) b.0 ≡ Some p → (new : Numbered) (f : PatternTests) → TakesParts env now new e f (opening env term) rest i p
      → Reads old new d f (opening_paths (opening env term) p ++ parts_paths env (opening env term) all 0 p) (opening_lists (opening env term) p ++ parts_lists env (opening env term) all 0 p) (after_parts env (opening env term) all 0 p) (λ places. opening_tests (opening env term) p ++ parts_tests env (opening env term) all 0 p places)

opened_kept : (ps qs : List Path) (o : Opened) → Extends ps qs → IsOpenedThere ps o → IsOpenedThere qs o
opened_kept ps qs (opened.Made m b) x h = there_kept ps qs b x h
opened_kept ps qs (opened.Result b) x h = there_kept ps qs b x h
opened_kept ps qs (opened.Results b) x h = there_kept ps qs b x h

-- after what the whole calls and tests
pub opened_first : (terms : List Term) (old now : Numbered) (d e : PatternTests) (term : TermId) (all : Patterns) (b : BindingId) (o : Opened) → IsThere (paths_of old.bindings) b → IsOpenedThere (paths_of now.bindings) o
    → ((env : Environment) → env.terms ≡ terms → Opens env old now d e term b o) → OpenedSoFar terms old now d e term all all 0 b o
opened_first terms old now d e term all b o here there h = record {
  extends = (h (env_of terms) refl here.0 here.1).reads.joins.extends;
  there = there;
  parts = λ env same p at. (h env same p at).parts;
  whole = λ env same p at new f g.
      reads_then old now new d e f (opening_paths (opening env term) p) (parts_paths env (opening env term) all 0 p) (opening_lists (opening env term) p) (parts_lists env (opening env term) all 0 p) (λ places. places) (after_parts env (opening env term) all 0 p) (λ places. opening_tests (opening env term) p) (parts_tests env (opening env term) all 0 p) (h env same p at).reads g;
}

-- after one part more
opened_more : (terms : List Term) (old now mid new : Numbered) (d e f : PatternTests) (term : TermId) (all : Patterns) (q : Pattern) (rest : Patterns) (i : ℕ) (b part : BindingId) (o : Opened) → OpenedSoFar terms old now d e term all (APattern q rest) i b o
    → Numbers now mid (opened_part (paths_of now.bindings) o i) part → TakesIn terms mid new e f q part → OpenedSoFar terms old new d f term all rest (suc i) b o
opened_more terms old now mid new d e f term all q rest i b part o so n t = record {
  extends = extends_more (paths_of old.bindings) (paths_of now.bindings) (paths_of new.bindings) so.extends (further part);
  there = opened_kept (paths_of now.bindings) (paths_of new.bindings) o (further part) so.there;
  parts = λ env same p at ps x. so.parts env same p at ps (extends_more (paths_of now.bindings) (paths_of new.bindings) ps (further part) x);
  whole = λ env same p at last g h. so.whole env same p at last g (behind env same p at last g h);
}
  where
    further : (x : BindingId) → Extends (paths_of now.bindings) (paths_of new.bindings)
    further x = extends_more (paths_of now.bindings) (paths_of mid.bindings) (paths_of new.bindings) n.extends (t (env_of terms) refl (opened_part (paths_of now.bindings) o i) n.found).joins.extends

    behind : (env : Environment) → env.terms ≡ terms → (p : Path) → slice_get (paths_of old.bindings) b.0 ≡ Some p → (last : Numbered) (g : PatternTests) → TakesParts env new last f g (opening env term) rest (suc i) p → TakesParts env now last e g (opening env term) (APattern q rest) i p
    behind env same p at last g h =
        let fp = part_path (opening env term) i p in
        let place : opened_part (paths_of now.bindings) o i ≡ fp = so.parts env same p at (paths_of now.bindings) (extends_self (paths_of now.bindings)) i in
        let part_there : Numbers now mid fp part = subst (λ r. Numbers now mid r part) place n in
        reads_behind now mid last e g fp part (pattern_paths env q fp ++ parts_paths env (opening env term) rest (suc i) p) (parts_lists env (opening env term) (APattern q rest) i p) (after_parts env (opening env term) (APattern q rest) i p) (parts_tests env (opening env term) (APattern q rest) i p) part_there
        (reads_then mid new last e f g (pattern_paths env q fp) (parts_paths env (opening env term) rest (suc i) p) (pattern_lists env q fp) (parts_lists env (opening env term) rest (suc i) p) (after env q fp) (after_parts env (opening env term) rest (suc i) p) (tests env q fp) (parts_tests env (opening env term) rest (suc i) p) (t env same fp part_there.found) h)

-- the parts of the code's list that are left
abbrev pub left_parts : List CodePattern → ℕ → Patterns
left_parts parts i = patterns_of (map pattern (drop i parts))

left_more : (parts : List CodePattern) (i : ℕ) (x : CodePattern) → i < length parts → x ≡ get_or parts i x → left_parts parts i ≡ APattern (pattern x) (left_parts parts (i + 1))
left_more parts i x lt is = ap (λ qs. patterns_of (map pattern qs)) (drop_more parts i x lt ∙ ap (λ y. y ∷ drop (i + 1) parts) (sym is))

next_is : (i : ℕ) → suc i ≡ i + 1
next_is i = omega arith

-- after the next part of the code's list
pub opened_next : (terms : List Term) (old now mid new : Numbered) (d e f : PatternTests) (term : TermId) (all : Patterns) (parts : List CodePattern) (n : ℕ) (x : CodePattern) (b part : BindingId) (o : Opened) → n < length parts → x ≡ get_or parts n x
    → OpenedSoFar terms old now d e term all (left_parts parts n) n b o → Numbers now mid (opened_part (paths_of now.bindings) o n) part → TakesIn terms mid new e f (pattern x) part
    → OpenedSoFar terms old new d f term all (left_parts parts (n + 1)) (n + 1) b o
opened_next terms old now mid new d e f term all parts n x b part o lt is so num t =
    subst (λ k. OpenedSoFar terms old new d f term all (left_parts parts (n + 1)) k b o) (next_is n)
    (opened_more terms old now mid new d e f term all (pattern x) (left_parts parts (n + 1)) n b part o (subst (λ qs. OpenedSoFar terms old now d e term all qs n b o) (left_more parts n x lt is) so) num t)

-- after the last one
pub opened_all : (terms : List Term) (old now : Numbered) (d e : PatternTests) (term : TermId) (all : Patterns) (parts : List CodePattern) (n : ℕ) (b : BindingId) (o : Opened) → length parts ≤ n → OpenedSoFar terms old now d e term all (left_parts parts n) n b o
    → TakesTermIn terms old now d e term all b
opened_all terms old now d e term all parts n b o le so env same p at =
    so.whole env same p at now e (subst (λ qs. TakesParts env now now e e (opening env term) qs n p) (sym (ap (λ qs. patterns_of (map pattern qs)) (drop_all n parts le))) (reads_self now e))

-- ---- several patterns on one path

-- wherever the rest of the patterns is taken, all were
pub record EachSoFar (terms : List Term) (old now : Numbered) (d e : PatternTests) (all rest : Patterns) (b : BindingId) : Type 0 where
  pub extends : Extends (paths_of old.bindings) (paths_of now.bindings)
  pub whole : (env : Environment) → env.terms ≡ terms → (p : Path) → slice_get (paths_of old.bindings) b.0 ≡ Some p → (new : Numbered) (f : PatternTests) → Reads now new e f (each_paths env rest p) (each_lists env rest p) (after_each env rest p) (each_tests env rest p)
      → Reads old new d f (each_paths env all p) (each_lists env all p) (after_each env all p) (each_tests env all p)

-- before the first
pub each_first : (terms : List Term) (n : Numbered) (d : PatternTests) (all : Patterns) (b : BindingId) → EachSoFar terms n n d d all all b
each_first terms n d all b = record { extends = extends_self (paths_of n.bindings); whole = λ env same p there new f g. g }

-- after one pattern more
each_more : (terms : List Term) (old now new : Numbered) (d e f : PatternTests) (all : Patterns) (q : Pattern) (rest : Patterns) (b : BindingId) → IsThere (paths_of old.bindings) b → EachSoFar terms old now d e all (APattern q rest) b → TakesIn terms now new e f q b → EachSoFar terms old new d f all rest b
each_more terms old now new d e f all q rest b there so t = record {
  extends = extends_more (paths_of old.bindings) (paths_of now.bindings) (paths_of new.bindings) so.extends (t (env_of terms) refl there.0 (so.extends.kept b.0 there.0 there.1)).joins.extends;
  whole = λ env same p stands last g h. so.whole env same p stands last g
      (reads_then now new last e f g (pattern_paths env q p) (each_paths env rest p) (pattern_lists env q p) (each_lists env rest p) (after env q p) (after_each env rest p) (tests env q p) (each_tests env rest p) (t env same p (so.extends.kept b.0 p stands)) h);
}

-- after the next pattern of the code's list
pub each_next : (terms : List Term) (old now new : Numbered) (d e f : PatternTests) (all : Patterns) (parts : List CodePattern) (n : ℕ) (x : CodePattern) (b : BindingId) → n < length parts → x ≡ get_or parts n x → IsThere (paths_of old.bindings) b
    → EachSoFar terms old now d e all (left_parts parts n) b → TakesIn terms now new e f (pattern x) b → EachSoFar terms old new d f all (left_parts parts (n + 1)) b
each_next terms old now new d e f all parts n x b lt is there so t =
    each_more terms old now new d e f all (pattern x) (left_parts parts (n + 1)) b there (subst (λ qs. EachSoFar terms old now d e all qs b) (left_more parts n x lt is) so) t

-- after the last one
pub each_all : (terms : List Term) (old now : Numbered) (d e : PatternTests) (all : Patterns) (parts : List CodePattern) (n : ℕ) (b : BindingId) → length parts ≤ n → EachSoFar terms old now d e all (left_parts parts n) b → TakesEachIn terms old now d e all b
each_all terms old now d e all parts n b le so env same p there =
    so.whole env same p there now e (subst (λ qs. Reads now now e e (each_paths env qs p) (each_lists env qs p) (after_each env qs p) (each_tests env qs p)) (sym (ap (λ qs. patterns_of (map pattern qs)) (drop_all n parts le))) (reads_self now e))

-- ---- arguments

-- wherever the rest of the arguments is taken, all were
abbrev pub ArgumentsSoFar : List Term → Numbered → Numbered → PatternTests → List Pattern → List Pattern → ℕ → Type 0
ArgumentsSoFar terms old now e all rest i = (env : Environment) → env.terms ≡ terms → (new : Numbered) (f : PatternTests) → TakesArguments env now new e f rest i → NumbersPatterns env old new all f

-- before the first
pub arguments_first : (terms : List Term) (n : Numbered) (d : PatternTests) (all : List Pattern) → ((ps : List Path) → HasTests ps no_places [] d) → ArgumentsSoFar terms n n d all all 0
arguments_first terms n d all h env same new f g = record { joins = g.joins; tests = λ ps x. g.gathers ps x no_places [] (h ps) }

-- after the next pattern of the code's list
pub arguments_next : (terms : List Term) (old now mid new : Numbered) (e f : PatternTests) (all : List Pattern) (patterns : List CodePattern) (i : ℕ) (x : CodePattern) (b : BindingId) → i < length patterns → x ≡ get_or patterns i x → ArgumentsSoFar terms old now e all (map pattern (drop i patterns)) i
    → Numbers now mid (Arg i) b → TakesIn terms mid new e f (pattern x) b → ArgumentsSoFar terms old new f all (map pattern (drop (i + 1) patterns)) (i + 1)
arguments_next terms old now mid new e f all patterns i x b lt is so n t env same last g h =
    let rest = map pattern (drop (i + 1) patterns) in
    let q = pattern x in
    let left : map pattern (drop i patterns) ≡ q ∷ rest = ap (map pattern) (drop_more patterns i x lt ∙ ap (λ y. y ∷ drop (i + 1) patterns) (sym is)) in
    let then : TakesArguments env new last f g rest (suc i) = subst (λ k. TakesArguments env new last f g rest k) (sym (next_is i)) h in
    so env same last g
    (subst (λ qs. TakesArguments env now last e g qs i) (sym left)
    (reads_behind now mid last e g (Arg i) b (pattern_paths env q (Arg i) ++ args_paths env rest (suc i)) (args_lists env (q ∷ rest) i) (args_after env (q ∷ rest) i) (args_tests env (q ∷ rest) i) n
    (reads_then mid new last e f g (pattern_paths env q (Arg i)) (args_paths env rest (suc i)) (pattern_lists env q (Arg i)) (args_lists env rest (suc i)) (after env q (Arg i)) (args_after env rest (suc i)) (tests env q (Arg i)) (args_tests env rest (suc i)) (t env same (Arg i) n.found) then)))

-- after the last one
pub arguments_all : (terms : List Term) (old now : Numbered) (e : PatternTests) (all : List Pattern) (patterns : List CodePattern) (i : ℕ) → length patterns ≤ i → ArgumentsSoFar terms old now e all (map pattern (drop i patterns)) i
    → (env : Environment) → env.terms ≡ terms → NumbersPatterns env old now all e
arguments_all terms old now e all patterns i le so env same =
    so env same now e (subst (λ qs. TakesArguments env now now e e qs i) (sym (ap (map pattern) (drop_all i patterns le))) (reads_self now e))

-- ---- built patterns

-- a pattern of a list of built ones
pub built_at : (terms : List Term) (patterns : List CodePattern) (i : ℕ) (x : CodePattern) → All (IsBuiltPattern terms) (map pattern patterns) → i < length patterns → x ≡ get_or patterns i x → IsBuiltPattern terms (pattern x)
built_at terms patterns i x h lt is =
    let within : i < length (map pattern patterns) = omega (arith, length-map patterns pattern) in
    subst (IsBuiltPattern terms) (get_or-map pattern patterns i x (pattern x) lt ∙ ap pattern (sym is)) (h i (pattern x) within)

are_built : (terms : List Term) (qs : List Pattern) → AreBuiltPatterns terms (patterns_of qs) → AllByRecursion (IsBuiltPattern terms) qs
are_built terms [] h = tt
are_built terms (q ∷ qs) h = (h.0, are_built terms qs h.1)

-- a part of what is made
pub part_built : (terms : List Term) (parts : List CodePattern) (i : ℕ) (x : CodePattern) → AreBuiltPatterns terms (patterns_of (map pattern parts)) → i < length parts → x ≡ get_or parts i x → IsBuiltPattern terms (pattern x)
part_built terms parts i x h lt is = built_at terms parts i x (All-from_recursion (IsBuiltPattern terms) (map pattern parts) (are_built terms (map pattern parts) h)) lt is

-- as many patterns as the code's list has
pub counted : (parts : List CodePattern) → count (patterns_of (map pattern parts)) ≡ length parts
counted [] = refl
counted (x ∷ parts) = ap suc (counted parts)

-- the number of a part fits in a byte
pub part_fits : (parts : List CodePattern) (i : ℕ) → count (patterns_of (map pattern parts)) ≤ 256 → i < length parts → i < 256
part_fits parts i few lt = let same = counted parts in omega (arith, same, few, lt)
