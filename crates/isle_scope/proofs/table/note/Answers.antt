use Rattle.std.proofs.Common.{◌++◌, [], ◌∷◌, zip, ap, ◌∙◌}
use Rattle.isle_scope.proofs.Tables.{zip_more}
use Rattle.isle_scope.proofs.table.note.Goals as goal

pub returns-in-Ok-clause-more : goal.returns-in-Ok-clause-more
returns-in-Ok-clause-more g c =
    ap (λ ls. zip ls c.push.new.self.items) c.in-Ok.ensures.more
    ∙ ap (λ xs. zip (c.args.scope.now ++ c.args.local ∷ []) xs) c.in_ok-push.ensures.items
    ∙ zip_more c.args.scope.now c.args.things.now.items c.args.local c.args.thing c.requires
