use Rattle.std.proofs.Common.{map}
use Rattle.exploring.specs.Words.{parted, parted_as}
use Rattle.exploring.proofs.ServingLemmas.{means_alike}
use Rattle.exploring.proofs.serving.serve.Goals as goal

pub returns-in-Ok-clause-meaning : goal.returns-in-Ok-clause-meaning
returns-in-Ok-clause-meaning g c =
    means_alike _ (parted_as c.in-Ok.parts) (parted (map (λ w. w.now) c.args.words.now)) _ _ _ _ c.told.result _ c.in-Ok.ensures c.told.ensures.is c.serve_parts.ensures
