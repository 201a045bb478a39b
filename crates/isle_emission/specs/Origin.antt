-- What the function of a term is made from.
use Rattle.std.specs.Prelude.{List, IsSomeAnd, slice_get}
use Rattle.isle_base.specs.declared.ids.TermId.{TermId}
use Rattle.isle_core.specs.declared.blocks.Block.{Block as CodeBlock}
use Rattle.isle_core.specs.declared.files.Files.{Files}
use Rattle.isle_core.specs.declared.rule_sets.Binding.{Binding}
use Rattle.isle_core.specs.declared.rule_sets.RuleSet.{RuleSet}
use Rattle.isle_core.specs.declared.types.Term.{Term}
use Rattle.isle_core.specs.declared.types.TermEnv.{TermEnv}
use Rattle.isle_core.specs.declared.types.TypeEnv.{TypeEnv}
use Rattle.isle_core.specs.Block.{Block}
use Rattle.isle_core.specs.BlockViews.{block}
use Rattle.isle_core.specs.Rule.{Environment}
use Rattle.isle_core.specs.RuleViews.{environment}
use Rattle.isle_core.specs.Setting.{Setting, setting}

-- files, an environment, the number of a term of it, and the bindings and the block of the term's rules
pub record Origin : Type 0 where
  pub files : Files
  pub env : Environment
  pub id : TermId
  pub bindings : List Binding
  pub block : Block

-- that of what the code has
abbrev pub origin : Files → TypeEnv → TermEnv → TermId → RuleSet → CodeBlock → Origin
origin files typeenv termenv id rules b = record {
  files = files;
  env = environment typeenv termenv;
  id = id;
  bindings = rules.bindings;
  block = block b;
}

-- the term of its number is there, and it is so of the setting of its block
abbrev pub InSetting : Origin → (Setting → Type 0) → Type 0
InSetting o P = IsSomeAnd (slice_get o.env.terms o.id.0) (λ (t : Term). P (setting o.env t o.bindings))
