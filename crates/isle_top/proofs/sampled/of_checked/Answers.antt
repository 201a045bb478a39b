use Rattle.std.proofs.Common.{◌≡◌, length, map, sym, ap, ◌∙◌}
use Rattle.std.proofs.lemmas.List.{length-map}
use Rattle.std.proofs.lemmas.Result.{IfOk-weaker}
use Rattle.std.specs.String.{string_bytes}
use Rattle.isle_core.specs.RuleViews.{rule}
use Rattle.isle_tree.specs.Views.{program}
use Rattle.isle_run.specs.Compiled.{env_checked}
use Rattle.isle_top.specs.SampleLine.{counts_text, AreCounts}
use Rattle.isle_top.proofs.Counts.{none_given, counts_are}
use Rattle.isle_top.proofs.sampled.of_checked.Goals as goal

pub returns : goal.returns
returns c =
    let env = env_checked c.args.checked.now in
    let p = program c.in_ok-program.program in
    let rules = c.as_slice-2.result.now in
    let many : length rules ≡ length env.rules = sym (length-map rules rule) ∙ ap (λ xs. length (map rule xs)) c.as_slice-2.ensures in
    IfOk-weaker c.counts_text.result (λ lines. string_bytes lines ≡ counts_text c.tree_counts.result (length rules)) (λ lines. AreCounts c.args.source.now (string_bytes lines))
    (λ lines shown. counts_are c.args.source.now env c.new-options.result p c.tree_counts.result (length rules) (string_bytes lines) c.requires.checked
    (none_given c.new-options.result c.new-options.ensures.allow c.new-options.ensures.prefixes c.new-options.ensures.logging c.new-options.ensures.split c.new-options.ensures.threshold c.new-options.ensures.limit)
    (record { well_formed = c.in_ok-program.ensures.well_formed; frame = c.in_ok-program.ensures.frame; functions = c.in_ok-program.ensures.functions })
    c.tree_counts.ensures many shown) c.counts_text.ensures
