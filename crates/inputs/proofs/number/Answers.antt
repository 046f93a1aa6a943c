use Rattle.std.proofs.Common.{◌≢◌, ◌∙◌, arith, slice_index}
use Rattle.std.proofs.lemmas.Str.Pattern.{starts_char}
use Rattle.inputs.proofs.NumberLemmas.{number_read}
use Rattle.inputs.proofs.number.Goals as goal

pub returns : goal.returns
returns c =
    let plain : slice_index c.args.word.now 0 ≢ 43 =
    λ plus. let begins = (starts_char 43 c.args.word.now c.starts_with.result c.starts_with.ensures.cases (omega arith) (omega arith)).1 plus in cc in
    c.ok.ensures.value ∙ number_read c.args.word.now c.parse.result c.parse.ensures.value.0 plain
