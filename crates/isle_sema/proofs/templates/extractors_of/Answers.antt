use Rattle.std.proofs.Common.{◌≡◌, rules, List, map, Option, Some, None, sym, ap, ◌∙◌, subst}
use Rattle.std.specs.Prelude.{option_map}
use Rattle.isle_ast.specs.declared.tree.Def.{Def}
use Rattle.isle_ast.specs.Views.{defs as seen_defs}
use Rattle.isle_core.specs.RuleViews.{pattern as elaborated}
use Rattle.isle_templates.specs.Multi.{AreMultisTold}
use Rattle.isle_templates.specs.declared.templates.Templates.{Templates}
use Rattle.isle_templates.specs.Uses.{uses}
use Rattle.isle_templates.specs.Whole.{AreWholeFound}
use Rattle.isle_terms.specs.Whole.{whole}
use Rattle.isle_sema.specs.KnownOf.{AreKnown}
use Rattle.isle_sema.specs.RuleRows.{declared_multis}
use Rattle.isle_sema.specs.Templates.{templates}
use Rattle.isle_sema.proofs.SoundTemplates.{are_sound, none_missing}
use Rattle.isle_sema.proofs.UsesSeen.{uses_same}
use Rattle.isle_sema.proofs.templates.extractors_of.Goals as goal

pub unreachable-requires : goal.unreachable-requires
unreachable-requires c =
    let w = whole c.args.known.now in
    let defs = seen_defs c.args.known.now in
    let known = subst (λ (ds : List Def). AreKnown ds c.known.inside.before.now c.known.inside.types.now c.known.inside.terms.now c.known.inside.typed.now c.known.inside.converters.now) c.known.view_is c.known.invariant in
    let sound = are_sound defs (record { types = known.sound; terms = known.declared }) c.requires.trees.sound in
    let written : map (option_map elaborated) c.as_slice.result.now ≡ templates w = search rules in
    none_missing defs sound (subst (λ ts. AreWholeFound ts None) written (subst (λ (o : Option Templates). AreWholeFound (map (option_map elaborated) c.as_slice.result.now) o) c.in_default.is c.in_ok-templates.ensures))

pub multi_extractors-requires-clause-graph : goal.multi_extractors-requires-clause-graph
multi_extractors-requires-clause-graph c =
    let w = whole c.args.known.now in
    let defs = seen_defs c.args.known.now in
    let known = subst (λ (ds : List Def). AreKnown ds c.known.inside.before.now c.known.inside.types.now c.known.inside.terms.now c.known.inside.typed.now c.known.inside.converters.now) c.known.view_is c.known.invariant in
    let sound = are_sound defs (record { types = known.sound; terms = known.declared }) c.requires.trees.sound in
    let written : map (option_map elaborated) c.as_slice-2.result.now ≡ templates w = search rules in
    c.requires.graph ∙ uses_same w sound.treed ∙ ap uses (sym written)

pub returns : goal.returns
returns c =
    let w = whole c.args.known.now in
    let defs = seen_defs c.args.known.now in
    let known = subst (λ (ds : List Def). AreKnown ds c.known.inside.before.now c.known.inside.types.now c.known.inside.terms.now c.known.inside.typed.now c.known.inside.converters.now) c.known.view_is c.known.invariant in
    let sound = are_sound defs (record { types = known.sound; terms = known.declared }) c.requires.trees.sound in
    let written : map (option_map elaborated) c.as_slice.result.now ≡ templates w = search rules in
    let again : map (option_map elaborated) c.as_slice-2.result.now ≡ templates w = search rules in
    let flags : c.in_ok-flags.flags.items ≡ declared_multis w = search rules in
    let all = subst (λ ts. AreWholeFound ts (Some c.in-Some.templates)) written (subst (λ (o : Option Templates). AreWholeFound (map (option_map elaborated) c.as_slice.result.now) o) c.in-Some.is c.in_ok-templates.ensures) in
    let multis : AreMultisTold (templates w) (declared_multis w) c.in_ok-multis.multis.items = subst (λ ts. AreMultisTold ts (declared_multis w) c.in_ok-multis.multis.items) again (subst (λ fs. AreMultisTold (map (option_map elaborated) c.as_slice-2.result.now) fs c.in_ok-multis.multis.items) flags c.in_ok-multis.ensures) in
    record { sound = sound.sound; treed = sound.treed; free = sound.free; whole = all.1; multis = multis }
