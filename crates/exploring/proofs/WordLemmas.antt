-- What the arguments of the command line ask for.
use Rattle.std.proofs.Common.{◌≡◌, ◌∙◌, List, None, true, false, ap, sym, refl}
use Rattle.std.specs.Prelude.{if◌then◌else◌}
use Rattle.clap.specs.Words.{Text, is_simple_and_free}
use Rattle.exploring.specs.Words.{Parted, asked_by_parts, asked_of, awaits_text, command_line}

pub is_simple : is_simple_and_free command_line ≡ true
is_simple = refl

-- No text is missing.
pub whole_words : (p : Parted) (others : List Text) → false ≡ awaits_text p.next → others ≡ p.others → asked_by_parts p ≡ asked_of p.finds p.anywhere others
whole_words p others more same =
    ap (λ b. if b then None else asked_of p.finds p.anywhere p.others) (sym more) ∙ ap (asked_of p.finds p.anywhere) (sym same)
