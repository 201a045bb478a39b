-- What is known of what stands in functions.
use Rattle.std.proofs.Common.{◌≡◌, ℕ, List, [], ◌∷◌, ◌++◌, fold, length, take, Bool, true, false, Option, Some, None, refl, sym, ap, ◌∙◌, subst, append_assoc, append-nil}
use Rattle.std.specs.Prelude.{◌==◌, OnOk, if◌then◌else◌}
use Rattle.std.specs.declared.result.Result.{Result}
use Rattle.std.proofs.lemmas.List.{take-map, length-map}
use Rattle.isle_scope.specs.Table.{newest, held as table_held}
use Rattle.isle_places.specs.DeclaredTypes.{Asked, variant_asked, struct_asked}
use Rattle.isle_places.specs.Signatures.{signature_of}
use Rattle.isle_places.specs.Told.{Told, Untold, Tells, newer_told, look_told, list_told, expr_told, binds_told, pattern_told}
use Rattle.isle_tree.specs.declared.tree.TBind.{TBind}
use Rattle.isle_tree.specs.declared.tree.TPat.{TPat}
use Rattle.isle_tree.specs.declared.tree.TPat.TheVariants as pattern
use Rattle.isle_tree.specs.Program.{Stmt, Let, LetList, IfEq, IfLet, Match, Loop, Return, Extend, Overflow, Log, Split, Tail, Function, Program}
use Rattle.isle_places.specs.Places.{told_after}
use Rattle.isle_places.specs.ToldViews.{told, local_told, tells}
use Rattle.isle_places.specs.declared.told.Told.{Told as CodeTold}

-- ---- locals

-- what is known of a local that may be bound
abbrev told_or : Option CodeTold → Told
told_or None = Untold
told_or (Some t) = told t

one_more : (n : ℕ) (o : Option CodeTold) (p : ℕ × CodeTold) → told_or (newest n o p) ≡ newer_told n (told_or o) (local_told p)
one_more n o p = by (p.0 == n)
  where
    by : (same : Bool) → told_or (if same then Some p.1 else o) ≡ (if same then told p.1 else told_or o)
    by true = refl
    by false = refl

told_fold : (n : ℕ) (o : Option CodeTold) (ps : List (ℕ × CodeTold)) → told_or (fold (newest n) o ps) ≡ fold (newer_told n) (told_or o) (tells ps)
told_fold n o [] = refl
told_fold n o (p ∷ ps) = told_fold n (newest n o p) ps ∙ ap (λ t. fold (newer_told n) t (tells ps)) (one_more n o p)

-- one that is bound
pub bound_told : (ps : List (ℕ × CodeTold)) (n : ℕ) (t : CodeTold) → Some t ≡ table_held ps n → told t ≡ look_told (tells ps) n
bound_told ps n t e = ap told_or e ∙ told_fold n None ps

-- one that isn't
pub unbound_told : (ps : List (ℕ × CodeTold)) (n : ℕ) → None ≡ table_held ps n → Untold ≡ look_told (tells ps) n
unbound_told ps n e = ap told_or e ∙ told_fold n None ps

-- ---- patterns

pub bound_variant : {B E : Type 0} (r : Result B E) (p : Program) (pat : TPat) (ty variant : List ℕ) (binds slice : List TBind) (left : Bool) (asked : Asked) (t : Told) (old new : Tells) → pat ≡ pattern.Variant ty variant binds left
    → asked ≡ variant_asked p.types ty ty variant → slice ≡ binds → OnOk r (new ≡ old ++ binds_told asked slice) → OnOk r (new ≡ old ++ pattern_told p pat t)
bound_variant r p pat ty variant binds slice left asked t old new is asks same h =
    subst (λ xs. OnOk r (new ≡ old ++ xs)) (ap (λ a. binds_told a slice) asks ∙ ap (binds_told (variant_asked p.types ty ty variant)) same ∙ ap (λ q. pattern_told p q t) (sym is)) h

pub bound_struct : {B E : Type 0} (r : Result B E) (p : Program) (pat : TPat) (ty : List ℕ) (binds slice : List TBind) (left : Bool) (asked : Asked) (t : Told) (old new : Tells) → pat ≡ pattern.Struct ty binds left → asked ≡ struct_asked p.types ty ty → slice ≡ binds
    → OnOk r (new ≡ old ++ binds_told asked slice) → OnOk r (new ≡ old ++ pattern_told p pat t)
bound_struct r p pat ty binds slice left asked t old new is asks same h =
    subst (λ xs. OnOk r (new ≡ old ++ xs)) (ap (λ a. binds_told a slice) asks ∙ ap (binds_told (struct_asked p.types ty ty)) same ∙ ap (λ q. pattern_told p q t) (sym is)) h

-- ---- scopes

take_front : {A : Type 0} (ys zs : List A) → take (length ys) (ys ++ zs) ≡ ys
take_front [] zs = refl
take_front (y ∷ ys) zs = ap (λ xs. y ∷ xs) (take_front ys zs)

-- what was bound since is left
pub left_scope : (now first new : List (ℕ × CodeTold)) (n : ℕ) (more : Tells) → n ≡ length first → new ≡ take n now → tells now ≡ tells first ++ more → tells new ≡ tells first
left_scope now first new n more is new_is grown =
    ap tells new_is
    ∙ sym (take-map local_told n now)
    ∙ ap (λ xs. take n xs) grown
    ∙ ap (λ k. take k (tells first ++ more)) (is ∙ sym (length-map first local_told))
    ∙ take_front (tells first) more

-- what is bound after a statement
pub record Grows (now later : Tells) : Type 0 where
  pub more : Tells
  pub grown : later ≡ now ++ more

none_more : (ts : Tells) → Grows ts ts
none_more ts = record { more = []; grown = sym (append-nil ts) }

grows : (p : Program) (f : Function) (ts : Tells) (s : Stmt) → Grows ts (told_after p f ts s)
grows p f ts (Let n e) = record { more = (n, expr_told p f ts e) ∷ []; grown = refl }
grows p f ts (LetList n call) = record { more = (n, list_told (signature_of p call.callee)) ∷ []; grown = refl }
grows p f ts (IfEq a b inside) = none_more ts
grows p f ts (IfLet pat r inside) = none_more ts
grows p f ts (Match r arms) = none_more ts
grows p f ts (Loop list item inside) = none_more ts
grows p f ts (Return e) = none_more ts
grows p f ts (Extend r) = none_more ts
grows p f ts (Overflow inside limit) = none_more ts
grows p f ts (Log term place) = none_more ts
grows p f ts (Split inner inside) = none_more ts
grows p f ts (Tail texts) = none_more ts

-- one statement more
pub grows_more : (p : Program) (f : Function) (first now later : Tells) (s : Stmt) → (more : Tells) × (now ≡ first ++ more) → later ≡ told_after p f now s → (more : Tells) × (later ≡ first ++ more)
grows_more p f first now later s before is =
    let grown = grows p f now s in
    (before.0 ++ grown.more, is ∙ grown.grown ∙ ap (λ xs. xs ++ grown.more) before.1 ∙ append_assoc first before.0 grown.more)
