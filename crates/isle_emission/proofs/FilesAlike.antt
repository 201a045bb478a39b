-- The functions that a block gives run alike, whatever files their positions lie in.
use Rattle.std.proofs.Common.{◌≡◌, ℕ, List, [], ◌∷◌, ◌++◌, Bool, true, false, Some, refl, sym, ap, ◌∙◌}
use Rattle.std.specs.Prelude.{if◌then◌else◌}
use Rattle.isle_core.specs.declared.BindingId.{BindingId}
use Rattle.isle_core.specs.declared.files.Files.{Files}
use Rattle.isle_core.specs.declared.options.CodegenOptions.{CodegenOptions}
use Rattle.isle_core.specs.declared.rule_sets.Binding.{Binding}
use Rattle.isle_core.specs.declared.types.ReturnKind.{ReturnKind}
use Rattle.isle_core.specs.declared.types.ReturnKind.TheVariants as kind
use Rattle.isle_core.specs.declared.types.Term.{Term}
use Rattle.isle_core.specs.Bindable.{bound_by}
use Rattle.isle_core.specs.Block as block
use Rattle.isle_core.specs.Block.{Block, Control}
use Rattle.isle_core.specs.BlockLawful.{IsLawfulBlock}
use Rattle.isle_core.specs.Calling.{kind_of}
use Rattle.isle_core.specs.Rule.{Environment}
use Rattle.isle_core.specs.Setting.{Setting, setting, gives_several}
use Rattle.isle_core.proofs.OptionLaws.{some_same}
use Rattle.isle_tree.specs.Program.{Overflow, Body, Done, Then, Function}
use Rattle.isle_tree.specs.Run.{Around, Env, State, Flow, Goes, Ends, Leaves, Stuck, ended, nothing_done, run_body, run_stmt, then_run}
use Rattle.isle_simulation.specs.Completed.{completed}
use Rattle.isle_simulation.specs.Emitted.{RunAlike, body_run}
use Rattle.isle_simulation.specs.Manner.{bare_manner}
use Rattle.isle_simulation.specs.TermFunction.{mark_of, tail_body, tail_of, tail_in, term_function, ends_in_return}
use Rattle.isle_simulation.proofs.GivenFunctions.{run_alike, runs_bare}
use Rattle.isle_simulation.proofs.Made.{function_made}
use Rattle.isle_simulation.proofs.Written.{block_body, bound_stmt, control_stmt, function_of, lets, stop_before, written_body}

-- two bodies run alike in these surroundings, wherever they begin
abbrev AreAlike : Around → Body → Body → Type 0
AreAlike w x y = (env : Env) (s : State) → run_body w x env s ≡ run_body w y env s

-- what follows a statement runs alike
then_alike : (w : Around) (x y : Body) → AreAlike w x y → (f : Flow) → then_run f (run_body w x) ≡ then_run f (run_body w y)
then_alike w x y same (Goes env s) = same env s
then_alike w x y same (Ends end s) = refl
then_alike w x y same (Leaves s) = refl
then_alike w x y same Stuck = refl

-- so after locals are bound
lets_alike : (w : Around) (s : Setting) (bound : List ℕ) (binds : List BindingId) (x y : Body) → AreAlike w x y → AreAlike w (lets s bound binds x) (lets s bound binds y)
lets_alike w s bound [] x y same env st = same env st
lets_alike w s bound (b ∷ binds) x y same env st =
    then_alike w (lets s (bound ++ b.0 ∷ []) binds x) (lets s (bound ++ b.0 ∷ []) binds y) (lets_alike w s (bound ++ b.0 ∷ []) binds x y same) (run_stmt w (bound_stmt s bound b) env st)

-- and after the list of results was found full or not
stop_alike : (w : Around) (limit : ℕ) (several : Bool) (c : Control) (x y : Body) → AreAlike w x y → AreAlike w (stop_before (bare_manner limit) several c x) (stop_before (bare_manner limit) several c y)
stop_alike w limit true (block.Return place result) x y same env st = then_alike w x y same (run_stmt w (Overflow false limit) env st)
stop_alike w limit true (block.Match source arms) x y same env st = same env st
stop_alike w limit true (block.Equal a b body) x y same env st = same env st
stop_alike w limit true (block.Loop result body) x y same env st = same env st
stop_alike w limit false c x y same env st = same env st

-- a block whose statements are followed by bodies that run alike
block_alike : (w : Around) (limit : ℕ) (s : Setting) (bound : List ℕ) (b : Block) (x y : Body) → AreAlike w x y → AreAlike w (block_body limit s bound b x) (block_body limit s bound b y)
block_alike w limit s bound block.Stop x y same env st = same env st
block_alike w limit s bound (block.Step binds c more) x y same env st =
    let inner = bound_by bound binds in
    let one = block_body limit s inner more x in
    let other = block_body limit s inner more y in
    let first = stop_before (bare_manner limit) (gives_several s) c one in
    let second = stop_before (bare_manner limit) (gives_several s) c other in
    let stop : AreAlike w first second = stop_alike w limit (gives_several s) c one other (block_alike w limit s inner more x y same) in
    let control = control_stmt limit s inner c in
    lets_alike w s bound binds (Then control first) (Then control second) (λ e t. then_alike w first second stop (run_stmt w control e t)) env st

-- the tail of a function runs alike, whatever place it tells
tail_alike : (w : Around) (of : ReturnKind) (name place other : List ℕ) (b : Block) → AreAlike w (tail_of of name place b) (tail_of of name other b)
tail_alike w of name place other b env st = by (ends_in_return b) of
  where
    by : (returns : Bool) (k : ReturnKind) → run_body w (if returns then Done else tail_body (mark_of k name place)) env st ≡ run_body w (if returns then Done else tail_body (mark_of k name other)) env st
    by true k = refl
    by false kind.Plain = refl
    by false kind.Option = refl
    by false kind.Iterator = refl

-- the functions that a block gives under the same options over two lists of files run alike
files_alike : (options : CodegenOptions) (files others : Files) (env : Environment) (t : Term) (bs : List Binding) (b : Block) (f g : Function) → IsLawfulBlock (setting env t bs) b
    → term_function options files (setting env t bs) b ≡ Some f → term_function options others (setting env t bs) b ≡ Some g → RunAlike f g
files_alike options files others env t bs b f g lawful given also w =
    sym (runs_so files f given)
    ∙ ap (ended (kind_of t.kind)) (block_alike w options.max_returns (setting env t bs) [] (completed (setting env t bs) [] b) (tail_in files env t b) (tail_in others env t b) (tail_alike w (kind_of t.kind) _ _ _ b) [] nothing_done)
    ∙ runs_so others g also
  where
    runs_so : (files : Files) (h : Function) → term_function options files (setting env t bs) b ≡ Some h → ended (kind_of t.kind) (run_body w (written_body options files env t bs b) [] nothing_done) ≡ body_run w h
    runs_so files h e =
        sym (ap (ended (kind_of t.kind)) (runs_bare options files env t bs b h lawful e w))
        ∙ ap (body_run w) (some_same (function_of options files env t bs b) h (sym (function_made options files env t bs b lawful) ∙ e))

-- those under any options with one limit, over any files
pub all_alike : (options other : CodegenOptions) (files others : Files) (env : Environment) (t : Term) (bs : List Binding) (b : Block) (f g : Function) → options.max_returns ≡ other.max_returns
    → IsLawfulBlock (setting env t bs) b → term_function options files (setting env t bs) b ≡ Some f → term_function other others (setting env t bs) b ≡ Some g → RunAlike f g
all_alike options other files others env t bs b f g limit lawful given also w =
    run_alike options other files env t bs b f (function_of other files env t bs b) limit lawful given (function_made other files env t bs b lawful) w
    ∙ files_alike other files others env t bs b (function_of other files env t bs b) g lawful (function_made other files env t bs b lawful) also w
