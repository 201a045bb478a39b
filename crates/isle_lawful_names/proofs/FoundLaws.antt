-- Laws of what is found among names.
use Rattle.std.proofs.Common.{◌≡◌, ℕ, ◌+◌, ◌<◌, ◌≤◌, List, [], ◌∷◌, ◌++◌, length, get_or, drop, map, Bool, true, false, Some, None, refl, sym, ap, ◌∙◌, subst, append_assoc}
use Rattle.std.specs.Prelude.{◌↔◌, ◌&&◌, flat_map, is_some, IsTrue}
use Rattle.std.specs.List.{AllByRecursion}
use Rattle.std.proofs.lemmas.List.{drop_more}
use Rattle.std.proofs.Math.ListN.{drop_of_length-le}
use denote.Ref.{Bor}
use Rattle.isle_core.specs.Rule.{Environment}
use Rattle.isle_lawful_names.specs.declared.name_error.NameUse.{NameUse}
use Rattle.isle_lawful_names.specs.Claims.{Claim, name_of, usage_of, IsLawfulClaim}
use Rattle.isle_lawful_names.specs.Judges.{Found, IsFirst, Judges}

-- ---- all of two lists

pub all_both : {X : Type 0} (P : X → Type 0) (xs ys : List X) → AllByRecursion P xs → AllByRecursion P ys → AllByRecursion P (xs ++ ys)
all_both P [] ys h k = k
all_both P (x ∷ xs) ys h k = (h.0, all_both P xs ys h.1 k)

pub all_front : {X : Type 0} (P : X → Type 0) (xs ys : List X) → AllByRecursion P (xs ++ ys) → AllByRecursion P xs
all_front P [] ys h = tt
all_front P (x ∷ xs) ys h = (h.0, all_front P xs ys h.1)

pub all_behind : {X : Type 0} (P : X → Type 0) (xs ys : List X) → AllByRecursion P (xs ++ ys) → AllByRecursion P ys
all_behind P [] ys h = h
all_behind P (x ∷ xs) ys h = all_behind P xs ys h.1

-- ---- a single name

-- one that is not lawful
pub one_unlawful : (env : Environment) (claim : Claim) (usage : NameUse) (name : Bor (List ℕ)) → (IsLawfulClaim env claim → ⊥) → name.now ≡ name_of claim → usage ≡ usage_of claim → IsFirst env (claim ∷ []) (usage, name)
one_unlawful env claim usage name h n u = record { before = []; claim = claim; behind = []; split = refl; lawful = tt; unlawful = h; name = n; usage = u }

-- two tests
pub both_tests : (a b : Bool) (A B : Type 0) → (IsTrue a ↔ A) → (IsTrue b ↔ B) → IsTrue (a && b) ↔ A × B
both_tests true b A B h k = (λ t. (h.0 refl, k.0 t), λ p. k.1 p.1)
both_tests false b A B h k = (λ t. absurd cc, λ p. let f : false ≡ true = h.1 p.0 in absurd cc)

-- a test that is an equation
pub as_test : (a b : Bool) → a ≡ b → IsTrue a ↔ IsTrue b
as_test a b e = (λ t. sym e ∙ t, λ t. e ∙ t)

-- ---- names after others

-- a name of the first ones is the first of all
pub judged_first : (env : Environment) (xs ys : List Claim) (found : Found) → Judges env xs found → is_some found ≡ true → Judges env (xs ++ ys) found
judged_first env xs ys None h e = absurd cc
judged_first env xs ys (Some f) h e =
    record {
      before = h.before;
      claim = h.claim;
      behind = h.behind ++ ys;
      split = ap (λ zs. zs ++ ys) h.split ∙ append_assoc h.before (h.claim ∷ h.behind) ys;
      lawful = h.lawful;
      unlawful = h.unlawful;
      name = h.name;
      usage = h.usage;
    }

-- if the first ones have none, that of the others is
pub judged_then : (env : Environment) (xs ys : List Claim) (none found : Found) → Judges env xs none → is_some none ≡ false → Judges env ys found → Judges env (xs ++ ys) found
judged_then env xs ys None None h e k = all_both (IsLawfulClaim env) xs ys h k
judged_then env xs ys None (Some f) h e k =
    record {
      before = xs ++ k.before;
      claim = k.claim;
      behind = k.behind;
      split = ap (λ zs. xs ++ zs) k.split ∙ sym (append_assoc xs k.before (k.claim ∷ k.behind));
      lawful = all_both (IsLawfulClaim env) xs k.before h k.lawful;
      unlawful = k.unlawful;
      name = k.name;
      usage = k.usage;
    }
judged_then env xs ys (Some g) found h e k = absurd cc

-- ---- loops

-- what is found among the names that are left is found among all
pub record Leads (env : Environment) (rest all : List Claim) : Type 0 where
  pub to : (found : Found) → Judges env rest found → Judges env all found

-- at the start
pub leads_itself : (env : Environment) (all : List Claim) → Leads env all all
leads_itself env all = record { to = λ found h. h }

-- some names more, among which none is found
pub leads_on : (env : Environment) (rest one more all : List Claim) (found : Found) → rest ≡ one ++ more → Judges env one found → is_some found ≡ false → Leads env rest all → Leads env more all
leads_on env rest one more all found split h none l =
    record { to = λ r k. l.to r (subst (λ cs. Judges env cs r) (sym split) (judged_then env one more found r h none k)) }

-- some names more, among which one is found
pub leads_out : (env : Environment) (rest one more all : List Claim) (found : Found) → rest ≡ one ++ more → Judges env one found → is_some found ≡ true → Leads env rest all → Judges env all found
leads_out env rest one more all found split h some l = l.to found (subst (λ cs. Judges env cs found) (sym split) (judged_first env one more found h some))

-- ---- loops over items, each with names

-- how names that are left begin with those of an item
items_split : {X : Type 0} (f : X → List Claim) (xs : List X) (i : ℕ) (x : X) → i < length xs → x ≡ get_or xs i x → flat_map f (drop i xs) ≡ f x ++ flat_map f (drop (i + 1) xs)
items_split f xs i x lt is = ap (flat_map f) (drop_more xs i x lt) ∙ ap (λ y. f y ++ flat_map f (drop (i + 1) xs)) (sym is)

pub items_on : {X : Type 0} (env : Environment) (f : X → List Claim) (xs : List X) (i : ℕ) (x : X) (found : Found) → i < length xs → x ≡ get_or xs i x → Judges env (f x) found → is_some found ≡ false
    → Leads env (flat_map f (drop i xs)) (flat_map f xs) → Leads env (flat_map f (drop (i + 1) xs)) (flat_map f xs)
items_on env f xs i x found lt is h none l = leads_on env (flat_map f (drop i xs)) (f x) (flat_map f (drop (i + 1) xs)) (flat_map f xs) found (items_split f xs i x lt is) h none l

pub items_out : {X : Type 0} (env : Environment) (f : X → List Claim) (xs : List X) (i : ℕ) (x : X) (found : Found) → i < length xs → x ≡ get_or xs i x → Judges env (f x) found → is_some found ≡ true
    → Leads env (flat_map f (drop i xs)) (flat_map f xs) → Judges env (flat_map f xs) found
items_out env f xs i x found lt is h some l = leads_out env (flat_map f (drop i xs)) (f x) (flat_map f (drop (i + 1) xs)) (flat_map f xs) found (items_split f xs i x lt is) h some l

pub items_end : {X : Type 0} (env : Environment) (f : X → List Claim) (xs : List X) (i : ℕ) → length xs ≤ i → Leads env (flat_map f (drop i xs)) (flat_map f xs) → Judges env (flat_map f xs) None
items_end env f xs i past l = l.to None (subst (λ ys. AllByRecursion (IsLawfulClaim env) (flat_map f ys)) (sym (drop_of_length-le xs past)) tt)

-- ---- so with one name each

one_split : {X : Type 0} (f : X → Claim) (xs : List X) (i : ℕ) (x : X) → i < length xs → x ≡ get_or xs i x → map f (drop i xs) ≡ (f x ∷ []) ++ map f (drop (i + 1) xs)
one_split f xs i x lt is = ap (map f) (drop_more xs i x lt) ∙ ap (λ y. f y ∷ map f (drop (i + 1) xs)) (sym is)

pub one_on : {X : Type 0} (env : Environment) (f : X → Claim) (xs : List X) (i : ℕ) (x : X) (found : Found) → i < length xs → x ≡ get_or xs i x → Judges env (f x ∷ []) found → is_some found ≡ false
    → Leads env (map f (drop i xs)) (map f xs) → Leads env (map f (drop (i + 1) xs)) (map f xs)
one_on env f xs i x found lt is h none l = leads_on env (map f (drop i xs)) (f x ∷ []) (map f (drop (i + 1) xs)) (map f xs) found (one_split f xs i x lt is) h none l

pub one_out : {X : Type 0} (env : Environment) (f : X → Claim) (xs : List X) (i : ℕ) (x : X) (found : Found) → i < length xs → x ≡ get_or xs i x → Judges env (f x ∷ []) found → is_some found ≡ true
    → Leads env (map f (drop i xs)) (map f xs) → Judges env (map f xs) found
one_out env f xs i x found lt is h some l = leads_out env (map f (drop i xs)) (f x ∷ []) (map f (drop (i + 1) xs)) (map f xs) found (one_split f xs i x lt is) h some l

-- if an item is a number or the like, and stands for itself
pub one_on_at : {X : Type 0} (env : Environment) (f : X → Claim) (xs : List X) (i : ℕ) (d : X) (found : Found) → i < length xs → Judges env (f (get_or xs i d) ∷ []) found → is_some found ≡ false
    → Leads env (map f (drop i xs)) (map f xs) → Leads env (map f (drop (i + 1) xs)) (map f xs)
one_on_at env f xs i d found lt h none l = leads_on env (map f (drop i xs)) (f (get_or xs i d) ∷ []) (map f (drop (i + 1) xs)) (map f xs) found (ap (map f) (drop_more xs i d lt)) h none l

pub one_out_at : {X : Type 0} (env : Environment) (f : X → Claim) (xs : List X) (i : ℕ) (d : X) (found : Found) → i < length xs → Judges env (f (get_or xs i d) ∷ []) found → is_some found ≡ true
    → Leads env (map f (drop i xs)) (map f xs) → Judges env (map f xs) found
one_out_at env f xs i d found lt h some l = leads_out env (map f (drop i xs)) (f (get_or xs i d) ∷ []) (map f (drop (i + 1) xs)) (map f xs) found (ap (map f) (drop_more xs i d lt)) h some l

pub one_end : {X : Type 0} (env : Environment) (f : X → Claim) (xs : List X) (i : ℕ) → length xs ≤ i → Leads env (map f (drop i xs)) (map f xs) → Judges env (map f xs) None
one_end env f xs i past l = l.to None (subst (λ ys. AllByRecursion (IsLawfulClaim env) (map f ys)) (sym (drop_of_length-le xs past)) tt)
