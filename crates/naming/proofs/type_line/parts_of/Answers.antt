use Rattle.std.proofs.Common.{◌≡◌, ◌≢◌, ◌-◌, ◌==◌, ◌∙◌, ℕ, List, ap, arith, drop, false, get_or, length, length-drop, refl, subst, sym, take}
use Rattle.std.specs.Prelude.{◌||◌}
use Rattle.std.specs.List.{list_any}
use Rattle.std.proofs.lemmas.List.{take_all}
use Rattle.std.proofs.lemmas.List.Elements.{All-take}
use Rattle.text.specs.Words.{behind_word, first_word, from_word}
use Rattle.naming.specs.Letters.{typed, typed_from}
use Rattle.naming.specs.Lines.{IsOneLine}
use Rattle.naming.proofs.KeyLemmas.{before_word}
use Rattle.naming.proofs.LineLemmas.{from_word_one_line, parts_one_line, range_one_line}
use Rattle.naming.proofs.type_line.parts_of.Goals as goal

-- the line that replaces a line, by its parts
by_parts : (line behind_type behind indent console text : List ℕ) → behind_type ≡ behind_word line → behind ≡ from_word (behind_word behind_type) → get_or behind 0 0 ≡ 34
    → list_any (λ b. (b == 34) || (b == 35)) (first_word behind_type) ≡ false → indent ≡ take (length line - length (from_word line)) line
    → console ≡ take (length behind_type - length behind) behind_type → text ≡ drop 1 behind → typed line ≡ typed_from indent console text
by_parts line behind_type behind indent console text type_is behind_is quote plain indent_is console_is text_is =
    rw (← type_is) (rw (← behind_is) (rw quote (rw plain (rw (indent_is, console_is, text_is) refl))))

pub returns-in-34-clause-parts : goal.returns-in-34-clause-parts
returns-in-34-clause-parts c =
    let first = c.in_ok-indent in
    let second = c.in_ok-console in
    let behind = c.skip_separators.result.now in
    let line = c.args.line.now in
    let indent : first.indent.now ≡ take (length line - length (from_word line)) line = before_word line first.indent.now (rw (← first.ensures.first.0) (rw (← first.ensures.first.1) first.ensures.whole)) in
    let behind_is : behind ≡ from_word (behind_word first.behind_type.now) = c.skip_separators.ensures.rest ∙ ap from_word second.ensures.first.1 in
    let quote : get_or behind 0 0 ≡ 34 = omega arith in
    let plain : list_any (λ b. (b == 34) || (b == 35)) (first_word first.behind_type.now) ≡ false = rw second.ensures.first.0 at (sym c.has_text.ensures ∙ c.if-has_text.false) in
    let text : take (length behind - 1) (drop 1 behind) ≡ drop 1 behind = take_all (length behind - 1) (drop 1 behind) (omega (arith, length-drop 1 behind)) in
    let len : length first.behind_type.now - length (take (length behind - 1) (drop 1 behind)) - 1 ≡ length first.behind_type.now - length behind = omega (arith, ap length text, length-drop 1 behind) in
    by_parts line first.behind_type.now behind first.indent.now c.split_at.result.0.now _ first.ensures.first.1 behind_is quote plain indent (c.split_at.ensures.front ∙ ap (λ n. take n first.behind_type.now) len) text

pub returns-in-34-clause-one_line : goal.returns-in-34-clause-one_line
returns-in-34-clause-one_line c = λ h.
    let first = c.in_ok-indent in
    let second = c.in_ok-console in
    let outer = parts_one_line c.args.line.now first.indent.now first.field-0-1.now first.behind_type.now first.ensures.whole h in
    let inner = parts_one_line first.behind_type.now second.field-0-0.now second.console.now second.behind.now second.ensures.whole outer.2 in
    let skipped : IsOneLine c.skip_separators.result.now = subst IsOneLine (sym c.skip_separators.ensures.rest) (from_word_one_line second.behind.now inner.2) in
    let console : IsOneLine c.split_at.result.0.now = subst IsOneLine (sym c.split_at.ensures.front) (All-take (λ b. b ≢ 10) _ first.behind_type.now outer.2) in
    (outer.0, console, range_one_line c.skip_separators.result.now (length c.skip_separators.result.now - 1) 1 skipped)
