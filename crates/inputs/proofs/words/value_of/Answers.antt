use Rattle.std.proofs.Common.{◌∙◌, sym}
use Rattle.clap.specs.Words.{found_of}
use Rattle.inputs.proofs.RowLemmas.{first_value_of_row}
use Rattle.inputs.proofs.words.value_of.Goals as goal

pub returns : goal.returns
returns c = c.get_str.ensures ∙ sym (first_value_of_row (found_of c.args.matches.now) c.args.name.now)
