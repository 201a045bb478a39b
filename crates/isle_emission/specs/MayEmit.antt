-- Terms whose function may be emitted.
use Rattle.isle_core.specs.declared.files.Files.{Files}
use Rattle.isle_core.specs.Block.{Block}
use Rattle.isle_core.specs.BlockLawful.{IsLawfulBlock}
use Rattle.isle_core.specs.Places.{LiesIn}
use Rattle.isle_core.specs.Setting.{Setting}
use Rattle.isle_emission.specs.Origin.{Origin, InSetting}
use Rattle.isle_simulation.specs.Emitted.{IsEmittable}
use Rattle.isle_simulation.specs.RustNames.{HasRustNames}
use Rattle.isle_simulation.specs.TermFns.{HasTermFns}
use Rattle.isle_simulation.specs.TraitFns.{HasFnNames}

-- the term may be emitted, the block is lawful for it, its declaration lies in the files, functions of the trait and of terms may be called
-- by their names, and types, variants, fields and constants have names of Rust
pub record MayEmit (files : Files) (s : Setting) (b : Block) : Type 0 where
  pub emittable : IsEmittable s.env s.term
  pub lawful : IsLawfulBlock s b
  pub declared : LiesIn files s.term.decl_pos
  pub fns : HasFnNames s.env
  pub term_fns : HasTermFns s.env
  pub names : HasRustNames s.env

-- so of a term with its rules' bindings and block
abbrev pub MayEmitTerm : Origin → Type 0
MayEmitTerm o = InSetting o (λ (s : Setting). MayEmit o.files s o.block)
