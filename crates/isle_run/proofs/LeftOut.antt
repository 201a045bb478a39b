-- Answers that leave no constant out give each that stands in the function a value.
use Rattle.std.proofs.Common.{◌≡◌, ℕ, zero, suc, ◌+◌, ◌<◌, ◌≤◌, arith, Bool, true, false, List, [], ◌∷◌, ◌++◌, length, drop, get_or, cond, map, Option, Some, None, refl, sym, ap, ◌∙◌, subst, ⊎_elim, append_assoc, append-nil}
use denote.Ref.{Bor}
use Rattle.std.specs.BTreeSet.{BTreeSet}
use Rattle.std.specs.Prelude.{◌==◌, ◌&&◌, ◌||◌, not, Contains, find, is_some, option_map, Result, Ok, Err, IfOk}
use Rattle.std.specs.List.{AllByRecursion, list_any}
use Rattle.std.specs.Option.{option_map_or}
use Rattle.std.specs.Str.{bytes_eq}
use Rattle.std.proofs.lemmas.Bool.{or_parts}
use Rattle.std.proofs.lemmas.List.{drop_more, map-append}
use Rattle.std.proofs.lemmas.Bool.Decides.{Decides-eqb}
use Rattle.std.proofs.lemmas.Slice.Eq.{bytes_eq-Decides}
use Rattle.isle_core.specs.declared.Sym.{Sym}
use Rattle.isle_core.specs.declared.TypeId.{TypeId}
use Rattle.isle_core.specs.Having.{const_of}
use Rattle.isle_core.specs.Meaning.{Meaning}
use Rattle.isle_core.specs.NamesApart.{IsNameOf}
use Rattle.isle_core.specs.Rule.{Environment}
use Rattle.isle_core.specs.Terms.{sym_text}
use Rattle.isle_core.specs.Value.{Value}
use Rattle.isle_core.specs.ValueViews.{const}
use Rattle.isle_core.specs.declared.values.Value.{Value as CodeValue}
use Rattle.isle_core.proofs.Contained.{contained_cases, none_contained}
use Rattle.isle_lawful_names.proofs.ListLaws.{all_found}
use Rattle.isle_operand_names.specs.Names.{body_names, is_among}
use Rattle.isle_operand_names.specs.Sets.{has_name}
use Rattle.isle_tree.specs.Program.{Function}
use Rattle.isle_tree.specs.Run.{function_of}
use Rattle.isle_run.specs.Attempt.{Attempt}
use Rattle.isle_run.specs.LeftOut.{is_left_out, leave_out}

-- a name that is there is among the names
among : (names : List (List ℕ)) (name : List ℕ) → Contains names name → is_among name names ≡ true
among [] name c = absurd (none_contained name c)
among (x ∷ names) name c = ⊎_elim (λ (e : x ≡ name). first (bytes_eq name x) ((bytes_eq-Decides name x).1 (sym e))) (λ d. later (bytes_eq name x) (among names name d)) (contained_cases x names name c)
  where
    first : (b : Bool) → b ≡ true → (b || is_among name names) ≡ true
    first true h = refl
    first false h = absurd cc

    later : (b : Bool) → is_among name names ≡ true → (b || is_among name names) ≡ true
    later true h = refl
    later false h = h

-- if a test holds of none, it holds of each not
each_not : {X : Type 0} (test : X → Bool) (xs : List X) → list_any test xs ≡ false → AllByRecursion (λ (x : X). test x ≡ false) xs
each_not test [] h = tt
each_not test (x ∷ xs) h = let k = or_parts (test x) (list_any test xs) h in (k.0, each_not test xs k.1)

given_there : (stands : Bool) (o : Option Value) → stands && not (is_some o) ≡ false → stands ≡ true → o ≡ None → ⊥
given_there true None h is none = cc
given_there true (Some v) h is none = cc
given_there false o h is none = cc

-- a constant that the source declares and that stands in the function
constant_there : (env : Environment) (f : Function) (m : Meaning) (s : Sym) (ty : TypeId) (o : Option (Sym × TypeId)) → find (λ (c : Sym × TypeId). c.0.0 == s.0) env.types.consts ≡ o → option_map (λ (c : Sym × TypeId). c.1) o ≡ Some ty
    → list_any (is_left_out env f m) env.types.consts ≡ false → is_left_out env f m (s, ty) ≡ false
constant_there env f m s ty None at is none = absurd cc
constant_there env f m s ty (Some c) at is none =
    let kept = all_found (λ (d : Sym × TypeId). is_left_out env f m d ≡ false) (λ (d : Sym × TypeId). d.0.0 == s.0) env.types.consts c (each_not (is_left_out env f m) env.types.consts none) at in
    let same : c.0.0 ≡ s.0 = (Decides-eqb c.0.0 s.0).0 kept.1 in
    subst (λ (n : ℕ). is_left_out env f m (record { 0 = n }, ty) ≡ false) same kept.0

-- of a constant that stands in the function the answers have a value
pub none_left_out : (a : Attempt) (m : Meaning) (f : Function) (ty : TypeId) (name : List ℕ) → leave_out a m ≡ false → function_of a.term a.program.fns ≡ Some f → IsNameOf a.env ty name → Contains (body_names f.body) name → const_of m name ≡ None → ⊥
none_left_out a m f ty name kept found of stands none =
    let here : list_any (is_left_out a.env f m) a.env.types.consts ≡ false = sym (ap (λ (o : Option Function). option_map_or (λ (g : Function). list_any (is_left_out a.env g m) a.env.types.consts) o false) found) ∙ kept in
    let left : is_left_out a.env f m (of.0, ty) ≡ false = constant_there a.env f m of.0 ty (find (λ (c : Sym × TypeId). c.0.0 == of.0.0) a.env.types.consts) refl of.1 here in
    let at : is_among name (body_names f.body) && not (is_some (const_of m name)) ≡ false = subst (λ n. is_among n (body_names f.body) && not (is_some (const_of m n)) ≡ false) of.2 left in
    given_there (is_among name (body_names f.body)) (const_of m name) at (among (body_names f.body) name stands) none

-- names that are given values, and the values
pub given_names : (name : List ℕ) (consts : List (List ℕ × Value)) → list_any (bytes_eq name) (map (λ (c : List ℕ × Value). c.0) consts) ≡ is_some (option_map (λ (c : List ℕ × Value). c.1) (find (λ (c : List ℕ × Value). bytes_eq name c.0) consts))
given_names name [] = refl
given_names name (c ∷ consts) = by (bytes_eq name c.0) (given_names name consts)
  where
    by : (b : Bool) → list_any (bytes_eq name) (map (λ (d : List ℕ × Value). d.0) consts) ≡ is_some (option_map (λ (d : List ℕ × Value). d.1) (find (λ (d : List ℕ × Value). bytes_eq name d.0) consts))
        → (b || list_any (bytes_eq name) (map (λ (d : List ℕ × Value). d.0) consts)) ≡ is_some (option_map (λ (d : List ℕ × Value). d.1) (cond b (Some c) (find (λ (d : List ℕ × Value). bytes_eq name d.0) consts)))
    by true h = refl
    by false h = h

-- names with one more, and those that are left
pub given_more : {X : Type 0} (f : X → List ℕ) (xs : List X) (i : ℕ) (x d : X) (old new : List (Bor (List ℕ))) (y : Bor (List ℕ)) → i < length xs → x ≡ get_or xs i d → new ≡ old ++ y ∷ [] → y.now ≡ f x
    → map (λ (z : Bor (List ℕ)). z.now) new ++ map f (drop (i + 1) xs) ≡ map (λ (z : Bor (List ℕ)). z.now) old ++ map f (drop i xs)
given_more f xs i x d old new y lt is more seen =
    ap (λ (ys : List (Bor (List ℕ))). map (λ (z : Bor (List ℕ)). z.now) ys ++ map f (drop (i + 1) xs)) more
    ∙ ap (λ ys. ys ++ map f (drop (i + 1) xs)) (map-append (λ (z : Bor (List ℕ)). z.now) old (y ∷ []))
    ∙ append_assoc (map (λ (z : Bor (List ℕ)). z.now) old) (y.now ∷ []) (map f (drop (i + 1) xs))
    ∙ ap (λ n. map (λ (z : Bor (List ℕ)). z.now) old ++ (n ∷ map f (drop (i + 1) xs))) (seen ∙ ap f is)
    ∙ ap (λ ys. map (λ (z : Bor (List ℕ)). z.now) old ++ map f ys) (sym (drop_more xs i d lt))

-- if a test holds of one that is left, it holds of some
pub any_found : {X : Type 0} (test : X → Bool) (xs : List X) (i : ℕ) (x d : X) → i < length xs → x ≡ get_or xs i d → test x ≡ true → list_any test (drop i xs) ≡ true
any_found test xs i x d lt is holds = ap (list_any test) (drop_more xs i d lt ∙ ap (λ y. y ∷ drop (i + 1) xs) (sym is)) ∙ ap (λ (b : Bool). b || list_any test (drop (i + 1) xs)) holds

-- if none is left, of none
pub none_left : {X : Type 0} (test : X → Bool) (xs : List X) (i : ℕ) → length xs ≤ i → list_any test (drop i xs) ≡ false
none_left test [] zero le = refl
none_left test [] (suc i) le = refl
none_left test (x ∷ xs) zero le = absurd (omega (arith, le))
none_left test (x ∷ xs) (suc i) le = none_left test xs i (omega (arith, le))

-- what a set of names that are given values has
pub set_given : {E : Type 0} (m : Meaning) (consts : List (List ℕ × CodeValue)) (r : Result (BTreeSet (Bor (List ℕ))) E) (names slice : List (Bor (List ℕ))) → m.consts ≡ map const consts → slice ≡ names → map (λ (x : Bor (List ℕ)). x.now) names ≡ [] ++ map (λ (c : List ℕ × CodeValue). c.0) consts
    → IfOk r (λ found. (name : List ℕ) → has_name found name ≡ is_among name (map (λ (x : Bor (List ℕ)). x.now) slice)) → IfOk r (λ found. (name : List ℕ) → has_name found name ≡ is_some (const_of m name))
set_given m consts (Err e) names slice own same seen h = h
set_given m consts (Ok found) names slice own same seen h = λ name.
    h name ∙ ap (λ (ns : List (Bor (List ℕ))). is_among name (map (λ (x : Bor (List ℕ)). x.now) ns)) same ∙ ap (is_among name) seen ∙ ap (is_among name) (names_seen consts)
    ∙ given_names name (map const consts) ∙ ap (λ (cs : List (List ℕ × Value)). is_some (option_map (λ (c : List ℕ × Value). c.1) (find (λ (c : List ℕ × Value). bytes_eq name c.0) cs))) (sym own)
  where
    names_seen : (cs : List (List ℕ × CodeValue)) → map (λ (c : List ℕ × CodeValue). c.0) cs ≡ map (λ (c : List ℕ × Value). c.0) (map const cs)
    names_seen [] = refl
    names_seen (c ∷ cs) = ap (λ ns. c.0 ∷ ns) (names_seen cs)

same_tests : {X : Type 0} (test other : X → Bool) (xs : List X) → ((x : X) → test x ≡ other x) → list_any test xs ≡ list_any other xs
same_tests test other [] same = refl
same_tests test other (x ∷ xs) same = ap (λ b. b || list_any test xs) (same x) ∙ ap (λ b. other x || b) (same_tests test other xs same)

-- the sets tell whether a constant is left out
pub sets_tell : (env : Environment) (f : Function) (m : Meaning) (standing given : BTreeSet (Bor (List ℕ))) (consts : List (Sym × TypeId)) (names : List (List ℕ)) → names ≡ body_names f.body ++ [] → ((name : List ℕ) → has_name standing name ≡ is_among name names)
    → ((name : List ℕ) → has_name given name ≡ is_some (const_of m name)) → consts ≡ env.types.consts
    → list_any (λ (c : Sym × TypeId). has_name standing (sym_text env c.0) && not (has_name given (sym_text env c.0))) consts ≡ list_any (is_left_out env f m) env.types.consts
sets_tell env f m standing given consts names are stand have same =
    same_tests (λ (c : Sym × TypeId). has_name standing (sym_text env c.0) && not (has_name given (sym_text env c.0))) (is_left_out env f m) consts
    (λ c. ap (λ b. b && not (has_name given (sym_text env c.0))) (stand (sym_text env c.0) ∙ ap (is_among (sym_text env c.0)) (are ∙ append-nil (body_names f.body))) ∙ ap (λ b. is_among (sym_text env c.0) (body_names f.body) && not b) (have (sym_text env c.0)))
    ∙ ap (list_any (is_left_out env f m)) same

-- what is known of the function of the term is told of the run
pub function_tells : {A E : Type 0} (attempts : A → Attempt) (env : Environment) (f : Function) (m : Meaning) (r : Result Bool E) → ((args : A) → (attempts args).env ≡ env) → ((args : A) → function_of (attempts args).term (attempts args).program.fns ≡ Some f)
    → IfOk r (λ left. (e : Environment) → e.types ≡ env.types → left ≡ list_any (is_left_out e f m) e.types.consts) → IfOk r (λ left. (args : A) → left ≡ leave_out (attempts args) m)
function_tells attempts env f m (Err e) own found h = h
function_tells attempts env f m (Ok left) own found h = λ args.
    h env refl ∙ ap (λ (e : Environment). list_any (is_left_out e f m) e.types.consts) (sym (own args))
    ∙ ap (λ (o : Option Function). option_map_or (λ (g : Function). list_any (is_left_out (attempts args).env g m) (attempts args).env.types.consts) o false) (sym (found args))
