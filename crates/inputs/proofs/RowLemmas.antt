-- The arguments of a command line.
use Rattle.std.proofs.Common.{◌≡◌, ◌∙◌, Option, Some, None, ap, refl, option_and_then, option_map, slice_get, find}
use Rattle.std.specs.Str.{bytes_eq}
use Rattle.std.proofs.lemmas.Option.{slice_get-map}
use Rattle.clap.proofs.WalkLemmas.{find_row}
use Rattle.clap.specs.Facts.{Entry}
use Rattle.clap.specs.Walk.{row_of}
use Rattle.clap.specs.Words.{Text, first_of, first_value, rows_of}
use Rattle.clap.specs.declared.parser.matches.Found.{Found}

value_of_row : (o : Option Entry)
    → option_and_then (λ r. slice_get r.values 0) (option_map row_of o)
    ≡ option_and_then (λ a. option_map (λ s. s.now) (slice_get a.vals.items 0)) (option_map (λ e. e.1) o)
value_of_row None = refl
value_of_row (Some e) = slice_get-map (λ s. s.now) e.1.vals.items 0

-- the first value of an argument is the first value of its row
pub first_value_of_row : (f : Found) (id : Text) → first_of id (rows_of f) ≡ first_value f id
first_value_of_row f id =
    ap (option_and_then (λ r. slice_get r.values 0)) (find_row f.entries.items id)
    ∙ value_of_row (find (λ e. bytes_eq e.0.now id) f.entries.items)
