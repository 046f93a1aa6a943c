use Rattle.std.proofs.Common.{◌≡◌, ℕ, ◌+◌, ◌<◌, ◌∙◌, ◌∷◌, List, add-one, ap, arith, drop, get_or, length, sym}
use Rattle.std.proofs.Math.ListN.{drop_of_length-le}
use Rattle.std.proofs.Math.Seq.{drop-cons}
use Rattle.naming.specs.Sets.{with_byte, with_bytes, without_blanks}
use Rattle.naming.proofs.set_line.without_blanks.Goals as goal

step : (all text : List ℕ) (i : ℕ) → i < length text → with_bytes all (drop i text) ≡ with_bytes (with_byte all (get_or text i 0)) (drop (i + 1) text)
step all text i lt =
    let next : drop i text ≡ get_or text i 0 ∷ drop (i + 1) text = rw add-one (drop-cons text i 0 lt) in
    ap (with_bytes all) next

pub loop-byte-preserved : goal.loop-byte-preserved
loop-byte-preserved c =
    let so_far = c.loop-byte.invariant in
    let i = c.loop-byte.byte-index in
    record {
      items = ap (λ (x : List ℕ). with_bytes x (drop (i + 1) c.args.text.now)) c.in_ok-push_joined.ensures.items ∙ sym (step c.loop-byte.all.items c.args.text.now i (omega arith)) ∙ so_far.items;
      one_line = λ one. c.in_ok-push_joined.ensures.one_line (so_far.one_line one) (one i 0 (omega arith));
    }

pub returns-clause-items : goal.returns-clause-items
unfolding without_blanks
returns-clause-items c =
    let all = c.loop-byte.invariant.items in
    rw (drop_of_length-le c.args.text.now c.loop-byte-test.false) at all
