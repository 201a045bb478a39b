-- What is bound before bindings are read makes no call, and a run goes on after it.
use Rattle.std.proofs.Common.{◌≡◌, ℕ, List, [], ◌∷◌, ◌++◌, refl, sym, ap, ◌∙◌, subst, append_assoc}
use Rattle.std.specs.List.{AllByRecursion}
use Rattle.isle_core.specs.declared.BindingId.{BindingId}
use Rattle.isle_core.specs.declared.TermId.{TermId}
use Rattle.isle_core.specs.declared.types.ReturnKind.{ReturnKind}
use Rattle.isle_core.specs.declared.values.Callee.{Callee}
use Rattle.isle_core.specs.Calling.{Calling, ByTurns, ByCases, NoCall, calling}
use Rattle.isle_core.specs.BlockRun.{bind_one, bind_all, check_inner}
use Rattle.isle_core.specs.CallRun.{Went, Goes, Ends, then_go, make_call}
use Rattle.isle_core.specs.Meaning.{Meaning}
use Rattle.isle_core.specs.Occurrences.{occurrence, occurrence_at, occurrences}
use Rattle.isle_core.specs.Path.{Path, Called, Extracted, Chosen, MadeVariant, MadeStruct, Part, Paths, at}
use Rattle.isle_core.specs.Rule.{Environment}
use Rattle.isle_core.specs.Value.{Value, Made}
use Rattle.isle_core.specs.ValueAt.{Known, values_at}

-- ---- what makes no impure call

-- a call answered by cases
abbrev IsPure : Calling → Type 0
IsPure (ByCases callee kind) = Unit {0}
IsPure (ByTurns callee kind) = ⊥
IsPure NoCall = ⊥

-- a pure call, also of an extractor, a part of a tuple, an item of a list, or a made value
abbrev pub IsStill : Environment → Path → Type 0
IsStill env (Called term ps instance) = IsPure (calling env term)
IsStill env (Extracted term p) = Unit {0}
IsStill env (Part part p) = Unit {0}
IsStill env (Chosen p) = Unit {0}
IsStill env (MadeVariant ty variant ps) = Unit {0}
IsStill env (MadeStruct ty ps) = Unit {0}
IsStill env p = ⊥

-- so of each binding
abbrev pub AreStill : Environment → List Path → List BindingId → Type 0
AreStill env ps ns = AllByRecursion (λ (b : BindingId). IsStill env (at ps b)) ns

-- a call by cases is
pub pure_still : (env : Environment) (p : Path) (term : TermId) (ps : Paths) (instance : ℕ) (callee : Callee) (kind : ReturnKind) → p ≡ Called term ps instance → calling env term ≡ ByCases callee kind → IsStill env p
pure_still env p term ps instance callee kind e c = subst (IsStill env) (sym e) (subst IsPure (sym c) tt)

-- those of two lists
pub still_append : (env : Environment) (ps : List Path) (xs ys : List BindingId) → AreStill env ps xs → AreStill env ps ys → AreStill env ps (xs ++ ys)
still_append env ps [] ys h k = k
still_append env ps (x ∷ xs) ys h k = (h.0, still_append env ps xs ys h.1 k)

-- ---- runs

-- a pure call has its answer anyway
pure_made : (env : Environment) (m : Meaning) (args : List Value) (term : TermId) (ps : Paths) (instance : ℕ) (c : Calling) (known : Known) (made : List Made) → calling env term ≡ c → IsPure c → bind_one env m args (Called term ps instance) known made ≡ Goes known made
pure_made env m args term ps instance (ByCases callee kind) known made e h = ap (λ x. then_go (make_call m x instance (values_at env m args known ps) known made) (check_inner env m args (Called term ps instance))) e
pure_made env m args term ps instance (ByTurns callee kind) known made e h = absurd h
pure_made env m args term ps instance NoCall known made e h = absurd h

pub path_still : (env : Environment) (m : Meaning) (args : List Value) (p : Path) (known : Known) (made : List Made) → IsStill env p → bind_one env m args p known made ≡ Goes known made
path_still env m args (Called term ps instance) known made h = pure_made env m args term ps instance (calling env term) known made refl h
path_still env m args (Extracted term p) known made h = refl
path_still env m args (Part part p) known made h = refl
path_still env m args (Chosen p) known made h = refl
path_still env m args (MadeVariant ty variant ps) known made h = refl
path_still env m args (MadeStruct ty ps) known made h = refl
path_still env m args p known made h = absurd h

pub needs_still : (env : Environment) (m : Meaning) (args : List Value) (ps : List Path) (ns : List BindingId) (known : Known) (made : List Made) → AreStill env ps ns → bind_all env m args ps ns known made ≡ Goes known made
needs_still env m args ps [] known made h = refl
needs_still env m args ps (n ∷ ns) known made h = ap (λ w. then_go w (bind_all env m args ps ns)) (path_still env m args (at ps n) known made h.0) ∙ needs_still env m args ps ns known made h.1

pub goes_on : (w : Went) → then_go w Goes ≡ w
goes_on (Goes known made) = refl
goes_on (Ends o) = refl

pub then_twice : (w : Went) (f g : Known → List Made → Went) → then_go (then_go w f) g ≡ then_go w (λ known made. then_go (f known made) g)
then_twice (Goes known made) f g = refl
then_twice (Ends o) f g = refl

pub then_same : (w : Went) (f g : Known → List Made → Went) → ((known : Known) (made : List Made) → f known made ≡ g known made) → then_go w f ≡ then_go w g
then_same (Goes known made) f g h = h known made
then_same (Ends o) f g h = refl

-- bind orders after one another
bind_append : (env : Environment) (m : Meaning) (args : List Value) (ps : List Path) (xs ys : List BindingId) (known : Known) (made : List Made) → bind_all env m args ps (xs ++ ys) known made ≡ then_go (bind_all env m args ps xs known made) (bind_all env m args ps ys)
bind_append env m args ps [] ys known made = refl
bind_append env m args ps (x ∷ xs) ys known made =
    then_same (bind_one env m args (at ps x) known made) (bind_all env m args ps (xs ++ ys)) (λ k d. then_go (bind_all env m args ps xs k d) (bind_all env m args ps ys)) (λ k d. bind_append env m args ps xs ys k d)
    ∙ sym (then_twice (bind_one env m args (at ps x) known made) (bind_all env m args ps xs) (bind_all env m args ps ys))

-- what is needed before others
pub before_still : (env : Environment) (m : Meaning) (args : List Value) (ps : List Path) (ns more : List BindingId) (known : Known) (made : List Made) → AreStill env ps ns
    → bind_all env m args ps (ns ++ more) known made ≡ bind_all env m args ps more known made
before_still env m args ps ns more known made h =
    bind_append env m args ps ns more known made ∙ ap (λ w. then_go w (bind_all env m args ps more)) (needs_still env m args ps ns known made h)

-- and after them
pub behind_still : (env : Environment) (m : Meaning) (args : List Value) (ps : List Path) (more ns : List BindingId) (known : Known) (made : List Made) → AreStill env ps ns
    → bind_all env m args ps (more ++ ns) known made ≡ bind_all env m args ps more known made
behind_still env m args ps more ns known made h =
    bind_append env m args ps more ns known made
    ∙ then_same (bind_all env m args ps more known made) (bind_all env m args ps ns) Goes (λ k d. needs_still env m args ps ns k d h)
    ∙ goes_on (bind_all env m args ps more known made)

-- ---- impure calls

pure_uncalled : (c : Calling) (instance : ℕ) → IsPure c → occurrence c instance ≡ []
pure_uncalled (ByCases callee kind) instance h = refl
pure_uncalled (ByTurns callee kind) instance h = absurd h
pure_uncalled NoCall instance h = absurd h

pub path_uncalled : (env : Environment) (p : Path) → IsStill env p → occurrence_at env p ≡ []
path_uncalled env (Called term ps instance) h = pure_uncalled (calling env term) instance h
path_uncalled env (Extracted term p) h = refl
path_uncalled env (Part part p) h = refl
path_uncalled env (Chosen p) h = refl
path_uncalled env (MadeVariant ty variant ps) h = refl
path_uncalled env (MadeStruct ty ps) h = refl
path_uncalled env p h = absurd h

pub needs_uncalled : (env : Environment) (ps : List Path) (ns : List BindingId) → AreStill env ps ns → occurrences env ps ns ≡ []
needs_uncalled env ps [] h = refl
needs_uncalled env ps (n ∷ ns) h = ap (λ ks. ks ++ occurrences env ps ns) (path_uncalled env (at ps n) h.0) ∙ needs_uncalled env ps ns h.1

pub occurrences_append : (env : Environment) (ps : List Path) (xs ys : List BindingId) → occurrences env ps (xs ++ ys) ≡ occurrences env ps xs ++ occurrences env ps ys
occurrences_append env ps [] ys = refl
occurrences_append env ps (x ∷ xs) ys = ap (λ ks. occurrence_at env (at ps x) ++ ks) (occurrences_append env ps xs ys) ∙ sym (append_assoc (occurrence_at env (at ps x)) (occurrences env ps xs) (occurrences env ps ys))
