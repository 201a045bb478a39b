-- What holds of an emitted function.
use Rattle.std.proofs.Common.{◌≡◌, ◌<◌, ℕ, zero, suc, [], ◌∷◌, length, get_or, slice_get, List, Option, Some, None, refl, subst, sym, ap, arith}
use Rattle.std.specs.Prelude.{IsSomeAnd, is_some}
use Rattle.isle_core.specs.declared.files.Files.{Files}
use Rattle.isle_core.specs.declared.rule_sets.Binding.{Binding}
use Rattle.isle_core.specs.Block.{Block}
use Rattle.isle_core.specs.BlockLawful.{IsLawfulBlock}
use Rattle.isle_core.specs.Rule.{Environment}
use Rattle.isle_emission.specs.Built.{IsBuilt}
use Rattle.isle_emission.proofs.BuiltLaws.{some_of, block_built}
use Rattle.isle_simulation.specs.Manner.{manner_of}
use Rattle.isle_core.specs.declared.options.CodegenOptions.{CodegenOptions}
use Rattle.isle_core.specs.declared.types.ReturnKind.{ReturnKind}
use Rattle.isle_core.specs.declared.types.ReturnKind.TheVariants as kind
use Rattle.isle_core.specs.declared.types.Term.{Term}
use Rattle.isle_core.specs.Calling.{AnswersOnce, is_several, kind_of}
use Rattle.isle_core.specs.Setting.{setting}
use Rattle.isle_tree.specs.Program.{Function}
use Rattle.isle_tree.specs.WellFormed.{IsFunction}
use Rattle.isle_emission.specs.Origin.{Origin}
use Rattle.isle_emission.specs.MayEmit.{MayEmit, MayEmitTerm}
use Rattle.isle_emission.specs.EmittedTerm.{IsGiven, HasLogLines, IsWellFormedIn, HasBlockShape, RunsAs, RunsAsItsBlock, RunsUnderAll}
use Rattle.isle_simulation.specs.Emitted.{RunAlike}
use Rattle.isle_simulation.specs.TermFunction.{tail_in, function_with, term_function}
use Rattle.isle_simulation.proofs.GivenFunctions.{emitted_well_formed, has_shape, runs_as_block, runs_as_several, its_lines}
use Rattle.isle_emission.proofs.FilesAlike.{all_alike}
use Rattle.isle_simulation.proofs.Made.{function_made}
use Rattle.isle_simulation.proofs.StatementsFound.{function_found}
use Rattle.isle_simulation.specs.StatementsOf.{IsFunctionOf}

-- what is so of an item is so of the item of its number
pub at_item : {A : Type 0} (xs : List A) (i : ℕ) (x : A) (P Q : A → Type 0) → IsSomeAnd (slice_get xs i) P → x ≡ get_or xs i x → Q x → IsSomeAnd (slice_get xs i) Q
at_item [] i x P Q h is q = absurd h
at_item (y ∷ ys) zero x P Q h is q = subst Q is q
at_item (y ∷ ys) (suc i) x P Q h is q = at_item ys i x P Q h is q

-- an item of which something is so is there
pub in_range : {A : Type 0} (xs : List A) (i : ℕ) (P : A → Type 0) → IsSomeAnd (slice_get xs i) P → i < length xs
in_range [] i P h = absurd h
in_range (y ∷ ys) zero P h = omega arith
in_range (y ∷ ys) (suc i) P h = let lt = in_range ys i P h in omega arith

-- and it is so of the item that was read
pub of_item : {A : Type 0} (xs : List A) (i : ℕ) (x : A) (P : A → Type 0) → IsSomeAnd (slice_get xs i) P → x ≡ get_or xs i x → P x
of_item [] i x P h is = absurd h
of_item (y ∷ ys) zero x P h is = subst P (sym is) h
of_item (y ∷ ys) (suc i) x P h is = of_item ys i x P h is

-- what is so of an item by two facts
both : {A : Type 0} (o : Option A) (P Q R : A → Type 0) → ((x : A) → P x → Q x → R x) → IsSomeAnd o P → IsSomeAnd o Q → IsSomeAnd o R
both (Some x) P Q R f h k = f x h k
both None P Q R f h k = absurd h

-- the function is the one that the block gives
made : (options : CodegenOptions) (o : Origin) (t : Term) (f : Function) → IsFunctionOf options o.files (setting o.env t o.bindings) o.block f → term_function options o.files (setting o.env t o.bindings) o.block ≡ Some f
made options o t f h = function_found options o.files (setting o.env t o.bindings) o.block f h

pub is_well_formed : (options : CodegenOptions) (o : Origin) (f : Function) → MayEmitTerm o → IsGiven options o f → IsWellFormedIn o f
is_well_formed options o f h e p fns = one (slice_get o.env.terms o.id.0) h e
  where
    one : (t : Option Term) → IsSomeAnd t (λ u. MayEmit o.files (setting o.env u o.bindings) o.block) → IsSomeAnd t (λ u. IsFunctionOf options o.files (setting o.env u o.bindings) o.block f) → IsFunction p f
    one (Some t) may is = emitted_well_formed options o.files o.env t o.bindings o.block f may.lawful (made options o t f is) may.emittable may.names may.fns may.term_fns p fns
    one None may is = absurd may

pub is_shaped : (options : CodegenOptions) (o : Origin) (f : Function) → MayEmitTerm o → IsGiven options o f → HasBlockShape o f
is_shaped options o f h e = both (slice_get o.env.terms o.id.0) _ _ _ (λ t may is. has_shape options o.files o.env t o.bindings o.block f may.lawful (made options o t f is)) h e

-- it runs as the block of its kind of term
runs_so : (options : CodegenOptions) (o : Origin) (f : Function) (t : Term) → MayEmit o.files (setting o.env t o.bindings) o.block → IsFunctionOf options o.files (setting o.env t o.bindings) o.block f
    → RunsAs (is_several (kind_of t.kind)) options (setting o.env t o.bindings) o.block f
runs_so options o f t may is = of (kind_of t.kind) refl
  where
    of : (k : ReturnKind) → kind_of t.kind ≡ k → RunsAs (is_several k) options (setting o.env t o.bindings) o.block f
    of kind.Plain e = runs_as_block options o.files o.env t o.bindings o.block f may.lawful (made options o t f is) (subst AnswersOnce (sym e) tt) may.names may.fns may.term_fns
    of kind.Option e = runs_as_block options o.files o.env t o.bindings o.block f may.lawful (made options o t f is) (subst AnswersOnce (sym e) tt) may.names may.fns may.term_fns
    of kind.Iterator e = let several = ap is_several e in runs_as_several options o.files o.env t o.bindings o.block f may.lawful (made options o t f is) several may.lawful.items may.names may.fns may.term_fns

pub is_run : (options : CodegenOptions) (o : Origin) (f : Function) → MayEmitTerm o → IsGiven options o f → RunsAsItsBlock options o f
is_run options o f h e = both (slice_get o.env.terms o.id.0) _ _ _ (runs_so options o f) h e

pub is_logged : (options : CodegenOptions) (o : Origin) (f : Function) → MayEmitTerm o → IsGiven options o f → HasLogLines options o f
is_logged options o f h e = both (slice_get o.env.terms o.id.0) _ _ _ (λ t may is. its_lines options o.files o.env t o.bindings o.block f may.lawful (made options o t f is)) h e

pub is_alike : (options : CodegenOptions) (o : Origin) (f : Function) → MayEmitTerm o → IsGiven options o f → RunsUnderAll options o f
is_alike options o f h e other files g limit k = one (slice_get o.env.terms o.id.0) h e k
  where
    one : (t : Option Term) → IsSomeAnd t (λ u. MayEmit o.files (setting o.env u o.bindings) o.block) → IsSomeAnd t (λ u. IsFunctionOf options o.files (setting o.env u o.bindings) o.block f)
        → IsSomeAnd t (λ u. IsFunctionOf other files (setting o.env u o.bindings) o.block g) → RunAlike f g
    one (Some t) may is also =
        all_alike options other o.files files o.env t o.bindings o.block f g limit may.lawful (made options o t f is) (function_found other files (setting o.env t o.bindings) o.block g also)
    one None may is also = absurd may

-- and all of its block is built
pub all_built : (options : CodegenOptions) (files : Files) (env : Environment) (t : Term) (bs : List Binding) (b : Block) → IsLawfulBlock (setting env t bs) b → IsBuilt (setting env t bs) [] b
all_built options files env t bs b lawful =
    let s = setting env t bs in
    block_built (manner_of options files s) b s [] (Some (tail_in files env t b)) (some_of (function_with env t) _ (ap is_some (function_made options files env t bs b lawful)))
