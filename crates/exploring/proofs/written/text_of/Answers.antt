use Rattle.std.proofs.Common.{◌∙◌, ap}
use Rattle.exploring.specs.Reports.{first_found}
use Rattle.exploring.proofs.FoundLemmas.{found_is_of_family}
use Rattle.exploring.proofs.written.text_of.Goals as goal

pub text_of_first-requires-in-Find : goal.text_of_first-requires-in-Find
text_of_first-requires-in-Find c = rw (c.first_found.ensures ∙ ap first_found c.finds.ensures) (found_is_of_family _ _ _ _ c.requires.finds)
