use Rattle.std.proofs.Common.{[], ◌∷◌}
use Rattle.isle_prelude_files.specs.Outputs.{files_of}
use Rattle.isle_prelude_files.proofs.MadeLaws.{beside, four_apart, four_files}
use Rattle.isle_prelude_files.proofs.names.Names.write.Goals as goal

pub write_files-requires : goal.write_files-requires
write_files-requires g c =
    four_apart (files_of (c.output-numerics.result ∷ c.output-methods.result ∷ c.output-opt.result ∷ c.output-lower.result ∷ [])) c.args.self.now c.args.texts.now
    (four_files c.output-numerics.result c.output-methods.result c.output-opt.result c.output-lower.result c.args.self.now c.args.texts.now
    (beside c.output-numerics.result _ _ _ c.output-numerics.ensures c.as_str.ensures.value) (beside c.output-methods.result _ _ _ c.output-methods.ensures c.as_str-2.ensures.value)
    (beside c.output-opt.result _ _ _ c.output-opt.ensures c.as_str-3.ensures.value) (beside c.output-lower.result _ _ _ c.output-lower.ensures c.as_str-4.ensures.value))
    c.requires
