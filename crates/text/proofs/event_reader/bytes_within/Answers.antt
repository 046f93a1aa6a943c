use Rattle.std.proofs.Common.{◌≡◌, ◌-◌, ◌<◌, ◌++◌, ◌∙◌, sym, ap, arith, rules, length, List, ℕ}
use Rattle.std.specs.Prelude.{Ok}
use Rattle.text.specs.Numbers.{byte_in}
use Rattle.text.specs.EventTexts.{bytes_within}
use Rattle.text.specs.Reading.{◌>>=◌}
use Rattle.text.specs.Words.{words}
use Rattle.text.proofs.KeyLemmas.{byte_len, bytes_more}
use Rattle.text.proofs.event_reader.bytes_within.Goals as goal

pub loop-word-preserved : goal.loop-word-preserved
loop-word-preserved c =
    let read : byte_in c.in-Some.word.now ≡ Ok c.in_ok-byte.byte = search rules in
    let two : length c.in-Some.word.now ≡ 2 = byte_len c.in-Some.word.now c.in_ok-byte.byte read in
    let room : length c.loop-word.bytes.items < c.args.room = omega arith in
    record {
      same = c.loop-word.invariant.same
          ∙ ap (λ (ws : List (List ℕ)). bytes_within (c.args.room - length c.loop-word.bytes.items) ws >>= λ more. Ok (c.loop-word.bytes.items ++ more)) c.in-Some.ensures.words
          ∙ bytes_more c.args.room c.loop-word.bytes.items c.in-Some.word.now (words c.in-Some.behind.now) c.in_ok-byte.byte read room
          ∙ ap (λ (bytes : List ℕ). bytes_within (c.args.room - length bytes) (words c.in-Some.behind.now) >>= λ more. Ok (bytes ++ more)) (sym c.push.ensures.items);
      room = omega arith;
      short = omega (arith, c.in-Some.ensures.within);
    }
