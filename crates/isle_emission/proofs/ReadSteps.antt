-- Reads of as many bindings as there are types.
use Rattle.std.proofs.Common.{◌≡◌, ℕ, zero, suc, ◌+◌, ◌<◌, ◌≤◌, List, [], ◌∷◌, ◌++◌, length, drop, get_or, Option, Some, None, refl, sym, subst, ap, ◌∙◌, append_assoc, arith}
use Rattle.std.specs.Prelude.{IsSome}
use Rattle.std.proofs.lemmas.List.{drop_more, drop_all, append-nil}
use Rattle.isle_core.specs.declared.BindingId.{BindingId}
use Rattle.isle_core.specs.declared.TypeId.{TypeId}
use Rattle.isle_core.specs.Setting.{Setting}
use Rattle.isle_tree.specs.declared.tree.Read.{Read}
use Rattle.isle_simulation.specs.Operands.{operand_of}
use Rattle.isle_simulation.specs.References.{is_declared, is_reference_in, read_as}
use Rattle.isle_simulation.specs.Statements.{read_before, read_in, reads}
use Rattle.isle_emission.specs.Built.{HasOperand}
use Rattle.isle_emission.proofs.BuiltLaws.{some_of}

-- what is read before others that may not be there
abbrev pub onto_reads : List Read → Option (List Read) → Option (List Read)
onto_reads rs None = None
onto_reads rs (Some others) = Some (rs ++ others)

-- those that are left from a place on, after these
abbrev pub ReadsFrom : Setting → List ℕ → List TypeId → List BindingId → ℕ → List Read → Option (List Read)
ReadsFrom s bound tys bs i rs = onto_reads rs (reads s bound (drop i tys) (drop i bs))

read_some : (r : Option Read) (o : Option (List Read)) → IsSome (read_before r o) → IsSome r × IsSome o
read_some (Some r) (Some o) h = (refl, refl)
read_some (Some r) None h = absurd cc
read_some None o h = absurd cc

-- as many types as bindings
as_many : (s : Setting) (bound : List ℕ) (tys : List TypeId) (bs : List BindingId) → IsSome (reads s bound tys bs) → length tys ≡ length bs
as_many s bound [] [] h = refl
as_many s bound (ty ∷ tys) (b ∷ bs) h = ap suc (as_many s bound tys bs (read_some (read_in s bound (is_declared s.env ty) b) (reads s bound tys bs) h).1)
as_many s bound [] (b ∷ bs) h = absurd cc
as_many s bound (ty ∷ tys) [] h = absurd cc

-- each binding is read
pub binding_there : (s : Setting) (bound : List ℕ) (tys : List TypeId) (bs : List BindingId) (i : ℕ) (b d : BindingId) → i < length bs → b ≡ get_or bs i d → IsSome (reads s bound tys bs) → HasOperand s bound b
binding_there s bound tys [] i b d lt item h = absurd (omega (arith, lt))
binding_there s bound [] (x ∷ bs) i b d lt item h = absurd cc
binding_there s bound (ty ∷ tys) (x ∷ bs) zero b d lt item h =
    subst (HasOperand s bound) (sym item) (some_of (read_as (is_declared s.env ty) (is_reference_in s x)) (operand_of s.env s.bindings bound x) (read_some (read_in s bound (is_declared s.env ty) x) (reads s bound tys bs) h).0)
binding_there s bound (ty ∷ tys) (x ∷ bs) (suc i) b d lt item h =
    binding_there s bound tys bs i b d (omega (arith, lt)) item (read_some (read_in s bound (is_declared s.env ty) x) (reads s bound tys bs) h).1

-- and has a type
pub type_there : (s : Setting) (bound : List ℕ) (tys : List TypeId) (bs : List BindingId) (i : ℕ) → i < length bs → IsSome (reads s bound tys bs) → i < length tys
type_there s bound tys bs i lt h = let same = as_many s bound tys bs h in omega (arith, lt, same)

one_more : (out : List Read) (r : Read) (others : Option (List Read)) → onto_reads (out ++ r ∷ []) others ≡ onto_reads out (read_before (Some r) others)
one_more out r None = refl
one_more out r (Some others) = ap Some (append_assoc out (r ∷ []) others)

-- one binding more
pub reads_step : (s : Setting) (bound : List ℕ) (tys : List TypeId) (bs : List BindingId) (i : ℕ) (ty e : TypeId) (b d : BindingId) (out new : List Read) (r : Read)
    → i < length tys → ty ≡ get_or tys i e → i < length bs → b ≡ get_or bs i d → Some r ≡ read_in s bound (is_declared s.env ty) b → new ≡ out ++ r ∷ []
    → ReadsFrom s bound tys bs (i + 1) new ≡ ReadsFrom s bound tys bs i out
reads_step s bound tys bs i ty e b d out new r lt_ty is_ty lt_b is_b is pushed =
    let more = reads s bound (drop (i + 1) tys) (drop (i + 1) bs) in
    ap (λ xs. onto_reads xs more) pushed
    ∙ one_more out r more
    ∙ ap (λ x. onto_reads out (read_before x more)) is
    ∙ ap (λ t. onto_reads out (reads s bound (t ∷ drop (i + 1) tys) (b ∷ drop (i + 1) bs))) is_ty
    ∙ ap (λ ts. onto_reads out (reads s bound ts (b ∷ drop (i + 1) bs))) (sym (drop_more tys i e lt_ty))
    ∙ ap (λ x. onto_reads out (reads s bound (drop i tys) (x ∷ drop (i + 1) bs))) is_b
    ∙ ap (λ xs. onto_reads out (reads s bound (drop i tys) xs)) (sym (drop_more bs i d lt_b))

-- all bindings
pub reads_all : (s : Setting) (bound : List ℕ) (tys : List TypeId) (bs : List BindingId) (i : ℕ) (out : List Read) → length bs ≤ i → IsSome (reads s bound tys bs)
    → ReadsFrom s bound tys bs i out ≡ reads s bound tys bs → Some out ≡ reads s bound tys bs
reads_all s bound tys bs i out past h is =
    let same = as_many s bound tys bs h in
    ap Some (sym (append-nil out))
    ∙ ap (λ ts. onto_reads out (reads s bound ts [])) (sym (drop_all i tys (omega (arith, past, same))))
    ∙ ap (λ xs. onto_reads out (reads s bound (drop i tys) xs)) (sym (drop_all i bs past))
    ∙ is
