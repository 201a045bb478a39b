use Rattle.std.proofs.Common.{◌≡◌, take, map}
use Rattle.isle_core.specs.Path.{paths_of}
use Rattle.isle_operands.specs.Contexts.{env_of}
use Rattle.isle_simulation.specs.References.{extractor_at, type_at}
use Rattle.isle_operands.proofs.types.binding_types.Given as goal

abbrev pub invariant-loop-binding : goal.invariant-loop-binding
invariant-loop-binding l =
    (l.types.items ≡ map (type_at (env_of l.context) l.context.term.now) (paths_of (take l.binding-index l.context.bindings.now)))
    × (l.extractors.items ≡ map extractor_at (paths_of (take l.binding-index l.context.bindings.now)))
