use Rattle.std.proofs.Common.{◌≡◌, ◌<◌, ℕ, zero, suc, true, ap, sym, ◌∙◌, arith, rules, to_z, of_z, w64, List, ℤ, pos, negsuc, Some, None, option_map, refl}
use Rattle.std.specs.Int.Signed.{lt_z}
use Rattle.posix.specs.Common.{Process, lookup, State, IsRegular, named}
use Rattle.posix.proofs.TableLemmas.{pid_looked}
use Rattle.proctable.specs.Records.{snapshot_of}
use Rattle.life.proofs.ViewLemmas.{state_is}
use Rattle.life.proofs.machine.Machine.named.Goals as goal
use Rattle.life.proofs.machine.Machine.named.Goals.{then-word-lt0-via-then-word-lt0, then-word-lt0-via-else-word-lt0+then-word-from}

-- a negative word names no process
named_negative : (me : Process) (z : ℤ) (rs : List Process) → lt_z z (pos 0) ≡ true → named me z rs ≡ None
named_negative me (pos n) rs e = absurd (grind (arith, e))
named_negative me (negsuc n) rs e = refl

-- no process has an ID above the largest
nobody_above : (s : State) (p : ℕ) → IsRegular s → s.world.pidmax < p → lookup p s.processes ≡ None
nobody_above s p i above = grind (arith, above, pid_looked p s.processes, λ (r : Process) (e : lookup p s.processes ≡ Some r). (i.bounded p r e).pid)

-- so no word above it names anybody
named_above : (s : State) (me : Process) (z : ℤ) → IsRegular s → lt_z (pos s.world.pidmax) z ≡ true → named me z s.processes ≡ None
named_above s me (pos zero) i e = absurd (grind (arith, e))
named_above s me (pos (suc n)) i e = nobody_above s (suc n) i (grind (arith, e))
named_above s me (negsuc n) i e = absurd (cc)

pub returns-then-word-lt0 : goal.returns-then-word-lt0
returns-then-word-lt0 g c = record {
  value = λ it e.
      let word : to_z w64 (of_z w64 c.args.word) ≡ c.args.word = search rules in
      elim c.then-word-lt0.branch [
        | then-word-lt0-via-then-word-lt0 w ↦ ap (option_map snapshot_of) (sym (named_negative it c.args.word _ (sym (ap (λ z. lt_z z (pos 0)) word) ∙ w.if-word-lt0.true)))
        | then-word-lt0-via-else-word-lt0+then-word-from w ↦
            let same = state_is c.self.view_is in
            let most : to_z w64 (of_z w64 w.from.result) ≡ w.from.result = search rules in
            let above = sym (ap (λ z. lt_z z c.args.word) (most ∙ w.from.ensures ∙ ap pos w.pidmax.ensures.value)) ∙ sym (ap (lt_z _) word) ∙ w.if-word-from.true in
            ap (option_map snapshot_of) (sym (ap (λ (s : State). named it c.args.word s.processes) (sym same) ∙ named_above _ it c.args.word c.self.invariant.sound.regular above))
      ];
  looks = search rules;
}
