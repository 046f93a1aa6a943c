use Rattle.std.proofs.Common.{◌≡◌, ◌<◌, ◌∷◌, ◌++◌, [], List, ℕ, rules, arith, ap, ◌∙◌, append_assoc, take, get_or}
use Rattle.std.specs.String.{string_bytes}
use Rattle.std.proofs.lemmas.List.{take_all}
use Rattle.posix.proofs.PrintingLemmas.{bytes_fit}
use Rattle.text.specs.Numbers.{two_digits}
use Rattle.schedules.proofs.AddLemmas.{keys_begun, keys_more, keys_added}
use Rattle.schedules.proofs.eventtext.write_key_line.Goals as goal

pub loop-byte-preserved : goal.loop-byte-preserved
loop-byte-preserved c =
    let old = string_bytes c.args.text.now in
    let i = c.loop-byte.byte-index in
    let byte : List ℕ = 32 ∷ two_digits (get_or c.args.bytes.now i 0) in
    let written : string_bytes c.write_byte.new.text ≡ string_bytes c.loop-byte.text ++ byte = search rules in
    written
    ∙ ap (λ (l : List ℕ). l ++ byte) c.loop-byte.invariant
    ∙ append_assoc old (keys_begun c.args.console (take i c.args.bytes.now)) byte
    ∙ ap (λ (l : List ℕ). old ++ l) (keys_more c.args.console c.args.bytes.now i c.loop-byte-test.true)

pub returns : goal.returns
returns c =
    let old = string_bytes c.args.text.now in
    let bytes = c.args.bytes.now in
    let small : c.args.console < 256 = omega (arith, c.ranges.console.fits) in
    let all : take c.loop-byte.byte-index bytes ≡ bytes = take_all c.loop-byte.byte-index bytes c.loop-byte-test.false in
    keys_added old (string_bytes c.push_str.new.self) c.args.console bytes small c.requires.some c.requires.few (bytes_fit bytes (λ i. omega (arith, c.type_inv.bytes i)))
    (
    c.in_ok-push_str.ensures.bytes
    ∙ ap (λ (l : List ℕ). l ++ 10 ∷ []) (c.loop-byte.invariant ∙ ap (λ (bs : List ℕ). old ++ keys_begun c.args.console bs) all)
    ∙ append_assoc old (keys_begun c.args.console bytes) (10 ∷ [])
    )
