use Rattle.std.proofs.Common.{map, ap, ◌∙◌}
use Rattle.isle_core.specs.RuleViews.{environment}
use Rattle.isle_tree.specs.Views.{function}
use Rattle.isle_codegen.proofs.Emitting.{can_emit}
use Rattle.isle_codegen.proofs.EmittedProgram.{program_well_formed, program_means}
use Rattle.isle_codegen.proofs.LawfulNames.{compilable}
use Rattle.isle_codegen.proofs.TermFunctions.{term_fns}
use Rattle.isle_codegen.proofs.tree.codegen_tree.Goals as goal

pub emit_all-requires : goal.emit_all-requires
emit_all-requires c =
    can_emit c.requires.given.defs c.args.files.now (environment c.args.typeenv.now c.args.termenv.now) c.requires.given.lawful.typed.typed c.requires.places (compilable c.requires.given.lawful).fns (term_fns (compilable c.requires.given.lawful)) (compilable c.requires.given.lawful).lawful c.args.terms.now
    (compilable c.requires.given.lawful).names c.requires.terms

pub returns-clause-well_formed : goal.returns-clause-well_formed
returns-clause-well_formed c =
    let env = environment c.args.typeenv.now c.args.termenv.now in
    program_well_formed c.requires.given.defs c.args.options.now c.args.files.now env c.requires.given.lawful.typed.typed c.requires.given.lawful.clean c.args.terms.now c.requires.terms (map function c.in_ok-fns.fns.items) c.in_ok-fns.ensures
    _ (compilable c.requires.given.lawful).fns (compilable c.requires.given.lawful).lawful (c.new.ensures ∙ c.in_ok-signatures.ensures) (c.new-2.ensures ∙ c.in_ok-types.ensures) (ap (map function) c.new-3.ensures)
    (can_emit c.requires.given.defs c.args.files.now env c.requires.given.lawful.typed.typed c.requires.places (compilable c.requires.given.lawful).fns (term_fns (compilable c.requires.given.lawful)) (compilable c.requires.given.lawful).lawful c.args.terms.now (compilable c.requires.given.lawful).names c.requires.terms)

pub returns-clause-functions : goal.returns-clause-functions
returns-clause-functions c =
    program_means c.requires.given.defs c.args.options.now c.args.files.now (environment c.args.typeenv.now c.args.termenv.now) c.requires.given.lawful.typed.typed c.requires.given.lawful.clean c.args.terms.now c.requires.terms
    (map function c.in_ok-fns.fns.items) c.in_ok-fns.ensures _ (compilable c.requires.given.lawful).fns (term_fns (compilable c.requires.given.lawful)) (compilable c.requires.given.lawful).lawful (ap (map function) c.new-3.ensures)
