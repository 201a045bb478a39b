-- There is one refusal at most, and none if the function may run.
use Rattle.std.proofs.Common.{◌≡◌, ℕ, zero, suc, ◌<◌, List, [], ◌∷◌, ◌++◌, length, take, Bool, true, false, Some, None, refl, sym, ap, ◌∙◌, subst, arith, append_assoc, append-nil}
use Rattle.std.specs.Prelude.{nat_lt, slice_get}
use Rattle.std.proofs.lemmas.Bool.Decides.{nat_tests}
use Rattle.std.proofs.lemmas.List.{length-map}
use Rattle.isle_core.specs.Value.{Value}
use Rattle.isle_core.specs.Meaning.{Meaning}
use Rattle.isle_tree.specs.declared.tree.Ty.{Ty}
use Rattle.isle_tree.specs.declared.tree.TypeItem.{TypeItem}
use Rattle.isle_tree.specs.Program.{Function, Program}
use Rattle.isle_tree.specs.Run.{function_of}
use Rattle.isle_interpreter.specs.declared.run_error.RunError.{RunError}
use Rattle.isle_interpreter.specs.declared.run_error.RunError.TheVariants as error
use Rattle.isle_places.specs.Signatures.{type_names}
use Rattle.isle_interpreter.specs.Named.{AreNamed}
use Rattle.isle_interpreter.specs.Entries.{Entry, entries, IsRight, AreRight}
use Rattle.isle_interpreter.specs.Refusals.{IsWrongArg, IsWrongEntry, IsMissing, no_answers, no_value, MayRun, IsRefused, no_term, arg_count, arg_type, wrong_entry, missing}
use Rattle.isle_interpreter.proofs.WrongNamed.{named_at, not_named}

-- two numbers that neither lies below the other are one
same_number : (i j : ℕ) → (i < j → ⊥) → (j < i → ⊥) → i ≡ j
same_number i j up down = by (nat_lt i j) refl (nat_lt j i) refl
  where
    below : (n m : ℕ) → nat_lt n m ≡ true → n < m
    below n m e = grind (arith, nat_tests)

    equal : nat_lt i j ≡ false → nat_lt j i ≡ false → i ≡ j
    equal e f = grind (arith, nat_tests)

    by : (a : Bool) → nat_lt i j ≡ a → (b : Bool) → nat_lt j i ≡ b → i ≡ j
    by true e b f = absurd (up (below i j e))
    by false e true f = absurd (down (below j i f))
    by false e false f = equal e f

-- what stands in a front of a list
get_taken : {A : Type 0} (i j : ℕ) (xs : List A) → i < j → slice_get (take j xs) i ≡ slice_get xs i
get_taken i zero xs lt = absurd (omega (arith, lt))
get_taken i (suc j) [] lt = refl
get_taken zero (suc j) (x ∷ xs) lt = refl
get_taken (suc i) (suc j) (x ∷ xs) lt = get_taken i j xs (omega (arith, lt))

taken_twice : {A : Type 0} (i j : ℕ) (xs : List A) → i < j → take i (take j xs) ≡ take i xs
taken_twice i zero xs lt = absurd (omega (arith, lt))
taken_twice zero (suc j) xs lt = refl
taken_twice (suc i) (suc j) [] lt = refl
taken_twice (suc i) (suc j) (x ∷ xs) lt = ap (λ ys. x ∷ ys) (taken_twice i j xs (omega (arith, lt)))

-- ---- arguments

earlier_arg : (types : List TypeItem) (names : List (List ℕ)) (args : List Value) (i j : ℕ) → IsWrongArg types names args i → IsWrongArg types names args j → i < j → ⊥
earlier_arg types names args i j v w lt = v.wrong (named_at types i (take j names) (take j args) v.name v.arg w.before (get_taken i j names lt ∙ v.named) (get_taken i j args lt ∙ v.given))

one_arg : (types : List TypeItem) (names : List (List ℕ)) (args : List Value) (i j : ℕ) → IsWrongArg types names args i → IsWrongArg types names args j → i ≡ j
one_arg types names args i j v w = same_number i j (earlier_arg types names args i j v w) (earlier_arg types names args j i w v)

named_count : (types : List TypeItem) (names : List (List ℕ)) (args : List Value) → AreNamed types names args → length args ≡ length names
named_count types [] [] h = refl
named_count types (n ∷ names) (v ∷ args) h = ap suc (named_count types names args h.1)
named_count types [] (v ∷ args) h = absurd h
named_count types (n ∷ names) [] h = absurd h

typed_count : (types : List TypeItem) (f : Function) (args : List Value) → AreNamed types (type_names f.params) args → length args ≡ length f.params
typed_count types f args typed = named_count types (type_names f.params) args typed ∙ length-map f.params (λ (ty : Ty). ty.name)

-- ---- entries

module _ (p : Program) (f : Function) (m : Meaning) where
  right_at : (earlier es : List Entry) (i : ℕ) (e : Entry) → AreRight p f m earlier es → slice_get es i ≡ Some e → IsRight p f m (earlier ++ take i es) e
  right_at earlier [] i e right is = absurd cc
  right_at earlier (d ∷ es) zero e right is =
      let same : d ≡ e = cc in
      subst (λ gs. IsRight p f m gs e) (sym (append-nil earlier)) (subst (IsRight p f m earlier) same right.0)
  right_at earlier (d ∷ es) (suc i) e right is = subst (λ gs. IsRight p f m gs e) (append_assoc earlier (d ∷ []) (take i es)) (right_at (earlier ++ d ∷ []) es i e right.1 is)

  not_right : (i : ℕ) → IsWrongEntry p f m i → AreRight p f m [] (entries m) → ⊥
  not_right i w right = w.wrong (right_at [] (entries m) i w.entry right w.found)

  earlier_entry : (i j : ℕ) → IsWrongEntry p f m i → IsWrongEntry p f m j → i < j → ⊥
  earlier_entry i j v w lt = v.wrong (subst (λ gs. IsRight p f m gs v.entry) (taken_twice i j (entries m) lt) (right_at [] (take j (entries m)) i v.entry w.before (get_taken i j (entries m) lt ∙ v.found)))

  one_entry : (i j : ℕ) → IsWrongEntry p f m i → IsWrongEntry p f m j → i ≡ j
  one_entry i j v w = same_number i j (earlier_entry i j v w) (earlier_entry j i w v)

-- ---- refusals

module _ (p : Program) (term : List ℕ) (args : List Value) (m : Meaning) where
  -- a function that takes the arguments
  same : (f g : Function) → function_of term p.fns ≡ Some f → function_of term p.fns ≡ Some g → f ≡ g
  same f g e h = cc

  typed_as : (f g : Function) → function_of term p.fns ≡ Some f → function_of term p.fns ≡ Some g → AreNamed p.types (type_names f.params) args → AreNamed p.types (type_names g.params) args
  typed_as f g e h typed = subst (λ (k : Function). AreNamed p.types (type_names k.params) args) (same f g e h) typed

  counted_as : (f g : Function) → function_of term p.fns ≡ Some f → function_of term p.fns ≡ Some g → length args ≡ length f.params → length args ≡ length g.params
  counted_as f g e h count = subst (λ (k : Function). length args ≡ length k.params) (same f g e h) count

  -- a wrong argument and arguments that are taken
  not_typed : (f g : Function) (i : ℕ) → function_of term p.fns ≡ Some f → function_of term p.fns ≡ Some g → IsWrongArg p.types (type_names f.params) args i → AreNamed p.types (type_names g.params) args → ⊥
  not_typed f g i e h w typed = not_named p.types (type_names f.params) args i w (typed_as g f h e typed)

  -- another number of arguments and arguments that are taken
  not_counted : (f g : Function) → function_of term p.fns ≡ Some f → function_of term p.fns ≡ Some g → (length args ≡ length f.params → ⊥) → AreNamed p.types (type_names g.params) args → ⊥
  not_counted f g e h n typed = n (counted_as g f h e (typed_count p.types g args typed))

  -- a wrong entry and entries that are right
  not_wrong : (f g : Function) (i : ℕ) → function_of term p.fns ≡ Some f → function_of term p.fns ≡ Some g → IsWrongEntry p f m i → AreRight p g m [] (entries m) → ⊥
  not_wrong f g i e h w right = not_right p f m i w (subst (λ (k : Function). AreRight p k m [] (entries m)) (same g f h e) right)

  -- two wrong entries are one
  one_wrong : (f g : Function) (i j : ℕ) → function_of term p.fns ≡ Some f → function_of term p.fns ≡ Some g → IsWrongEntry p f m i → IsWrongEntry p g m j → i ≡ j
  one_wrong f g i j e h v w = one_entry p f m i j v (subst (λ (k : Function). IsWrongEntry p k m j) (same g f h e) w)

  -- two refusals are one
  pub one_refusal : (d e : RunError) → IsRefused p term args m d → IsRefused p term args m e → d ≡ e
  one_refusal _ _ (no_term a) (no_term b) = refl
  one_refusal _ _ (no_term a) (arg_count g h n) = absurd cc
  one_refusal _ _ (no_term a) (arg_type g j h n w) = absurd cc
  one_refusal _ _ (no_term a) (wrong_entry g j h t w) = absurd cc
  one_refusal _ _ (no_term a) (missing g h t r l) = absurd cc
  one_refusal _ _ (arg_count f e n) (no_term b) = absurd cc
  one_refusal _ _ (arg_count f e n) (arg_count g h k) = refl
  one_refusal _ _ (arg_count f e n) (arg_type g j h k w) = absurd (n (counted_as g f h e k))
  one_refusal _ _ (arg_count f e n) (wrong_entry g j h t w) = absurd (not_counted f g e h n t)
  one_refusal _ _ (arg_count f e n) (missing g h t r l) = absurd (not_counted f g e h n t)
  one_refusal _ _ (arg_type f i e n v) (no_term b) = absurd cc
  one_refusal _ _ (arg_type f i e n v) (arg_count g h k) = absurd (k (counted_as f g e h n))
  one_refusal _ _ (arg_type f i e n v) (arg_type g j h k w) = ap error.ArgType (one_arg p.types (type_names f.params) args i j v (subst (λ (x : Function). IsWrongArg p.types (type_names x.params) args j) (same g f h e) w))
  one_refusal _ _ (arg_type f i e n v) (wrong_entry g j h t w) = absurd (not_typed f g i e h v t)
  one_refusal _ _ (arg_type f i e n v) (missing g h t r l) = absurd (not_typed f g i e h v t)
  one_refusal _ _ (wrong_entry f i e s v) (no_term b) = absurd cc
  one_refusal _ _ (wrong_entry f i e s v) (arg_count g h k) = absurd (not_counted g f h e k s)
  one_refusal _ _ (wrong_entry f i e s v) (arg_type g j h k w) = absurd (not_typed g f j h e w s)
  one_refusal _ _ (wrong_entry f i e s v) (wrong_entry g j h t w) = ap error.BadAnswers (one_wrong f g i j e h v w)
  one_refusal _ _ (wrong_entry f i e s v) (missing g h t r l) = absurd (not_wrong f g i e h v r)
  one_refusal _ _ (missing f e s r l) (no_term b) = absurd cc
  one_refusal _ _ (missing f e s r l) (arg_count g h k) = absurd (not_counted g f h e k s)
  one_refusal _ _ (missing f e s r l) (arg_type g j h k w) = absurd (not_typed g f j h e w s)
  one_refusal _ _ (missing f e s r l) (wrong_entry g j h t w) = absurd (not_wrong g f j h e w r)
  one_refusal _ _ (missing f e s r l) (missing g h t q k) = refl

  -- if the function may run nothing is missing
  not_missing : (f : Function) → MayRun p term args m f → IsMissing p f (entries m) → ⊥
  not_missing f may (no_answers callee there none) = may.answered callee there none
  not_missing f may (no_value name ty there free none) = may.given name ty there free none

  -- if the function may run there is none
  pub not_refused : (f : Function) (d : RunError) → MayRun p term args m f → IsRefused p term args m d → ⊥
  not_refused f _ may (no_term b) = let none : None ≡ Some f = sym b ∙ may.found in cc
  not_refused f _ may (arg_count g h k) = not_counted g f h may.found k may.typed
  not_refused f _ may (arg_type g j h k w) = not_typed g f j h may.found w may.typed
  not_refused f _ may (wrong_entry g j h t w) = not_wrong g f j h may.found w may.right
  not_refused f _ may (missing g h t r l) = not_missing f may (subst (λ (x : Function). IsMissing p x (entries m)) (same g f h may.found) l)
