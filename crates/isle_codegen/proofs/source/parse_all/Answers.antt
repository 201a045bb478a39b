use Rattle.std.proofs.Common.{rules, ◌≡◌, ◌++◌, true, not, ap, ◌∙◌, cond}
use Rattle.std.specs.Result.{is_ok}
use Rattle.std.proofs.lemmas.List.{map-append}
use Rattle.isle_ast.specs.Views.{defs, def}
use Rattle.isle_codegen.proofs.Sources.{source_next, source_once, source_wrong, source_all}
use Rattle.isle_codegen.proofs.source.parse_all.Goals as goal

pub returns-in-Err-clause-fault : goal.returns-in-Err-clause-fault
returns-in-Err-clause-fault c = λ at m e.
    let f = c.in-Err.ensures.fault at m e in
    source_wrong c.args.texts.now c.loop-file.file c.index-texts-file.result (defs c.loop-file.all.items) at c.loop-file-test.true c.index-texts-file.is c.loop-file.invariant.source f.0 (rw (← c.as_str.ensures) f.1)

pub loop-file-preserved : goal.loop-file-preserved
loop-file-preserved c =
    let ok : is_ok c.append.result ≡ true = c.is_err.ensures.negation ∙ ap not c.if-is_err.false in
    let items : c.append.new.self.items ≡ c.loop-file.all.items ++ c.in-Ok.read.items =
    c.append.ensures.items ∙ ap (λ b. cond b (c.loop-file.all.items ++ c.in-Ok.read.items) c.loop-file.all.items) ok in
    record {
      source = rw (items, map-append def c.loop-file.all.items c.in-Ok.read.items) (
          source_next c.args.texts.now c.loop-file.file c.index-texts-file.result (defs c.loop-file.all.items) (defs c.in-Ok.read.items)
          c.loop-file-test.true c.index-texts-file.is c.loop-file.invariant.count c.loop-file.invariant.source (rw (← c.as_str.ensures) c.in-Ok.ensures.ok));
      count = search rules;
    }

pub returns-clause-once : goal.returns-clause-once
returns-clause-once c = λ others h.
    source_once 0 c.args.texts.now (defs c.loop-file.all.items) others (source_all c.args.texts.now c.loop-file.file (defs c.loop-file.all.items) c.loop-file-test.false c.loop-file.invariant.source) h
