-- What contracts see of what the functions of all terms are made from.
use Rattle.std.specs.Prelude.{Option}
use Rattle.isle_core.specs.declared.rule_sets.RuleSet.{RuleSet}
use Rattle.isle_core.specs.declared.types.Term.{Term}
use Rattle.isle_core.specs.Block.{Block}
use Rattle.isle_core.specs.BlockLawful.{IsLawfulBlock}
use Rattle.isle_core.specs.Places.{LiesIn}
use Rattle.isle_core.specs.RuleViews.{environment}
use Rattle.isle_core.specs.Setting.{Setting, setting}
use Rattle.isle_tree.specs.Program.{Function}
use Rattle.isle_emission.specs.declared.sources.Sources.{Sources}
use Rattle.isle_simulation.specs.TermFunction as TermFunction

-- the setting of the block of a term with these rules
abbrev pub setting_with : Sources → Term → RuleSet → Setting
setting_with s t rules = setting (environment s.typeenv.now s.termenv.now) t rules.bindings

-- the block is lawful, and the term's declaration lies in the files
pub record IsForTerm (s : Sources) (t : Term) (rules : RuleSet) (b : Block) : Type 0 where
  pub lawful : IsLawfulBlock (setting_with s t rules) b
  pub declared : LiesIn s.files.now t.decl_pos

-- the function of the term
abbrev pub function_with : Sources → Term → RuleSet → Block → Option Function
function_with s t rules b = TermFunction.term_function s.options.now s.files.now (setting_with s t rules) b
