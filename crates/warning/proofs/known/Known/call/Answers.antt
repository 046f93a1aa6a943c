use Rattle.std.proofs.Common.{◌≡◌, ℕ, ℤ, List, slice_set, subst, sym}
use Rattle.posix.specs.declared.call.Call.{Call}
use Rattle.warning.specs.declared.held.Held.{Held}
use Rattle.warning.specs.declared.held.Held.TheVariants.{Unknown, Constant}
use Rattle.warning.specs.Holds.{held, Keeps}
use Rattle.warning.proofs.HeldLemmas.{behind_call, keeps_most, without_result, without_two, without_three, without_four}
use Rattle.warning.proofs.known.Known.call.Goals as goal

pub returns-in-Waitid : goal.returns-in-Waitid
returns-in-Waitid c =
    let known = c.args.self.now in
    let is : c.forget-in-Waitid-2.new.self ≡ slice_set (slice_set (slice_set known 0 Unknown) 1 Unknown) 2 Unknown = cc (c.forget.ensures.value, c.forget-in-Waitid.ensures.value, c.forget-in-Waitid-2.ensures.value) in
    λ old new. behind_call c.args.call known c.forget-in-Waitid-2.new.self old new (λ (r : ℕ) (z : ℤ) (e : held c.forget-in-Waitid-2.new.self r ≡ Constant z).
    let both = without_three known 1 2 r Unknown z (λ u. cc) (subst (λ (k : List Held). held k r ≡ Constant z) is e) in
    (subst (λ (k : Call). Keeps k r) (sym c.in-Waitid.is) both.0, both.1))

pub returns-in-Sigprocmask : goal.returns-in-Sigprocmask
returns-in-Sigprocmask c =
    let known = c.args.self.now in
    let is : c.forget-in-Sigprocmask.new.self ≡ slice_set (slice_set known 0 Unknown) 2 Unknown = cc (c.forget.ensures.value, c.forget-in-Sigprocmask.ensures.value) in
    λ old new. behind_call c.args.call known c.forget-in-Sigprocmask.new.self old new (λ (r : ℕ) (z : ℤ) (e : held c.forget-in-Sigprocmask.new.self r ≡ Constant z).
    let both = without_two known 2 r Unknown z (λ u. cc) (subst (λ (k : List Held). held k r ≡ Constant z) is e) in
    (subst (λ (k : Call). Keeps k r) (sym c.in-Sigprocmask.is) both.0, both.1))

pub returns-in-Sigaction : goal.returns-in-Sigaction
returns-in-Sigaction c =
    let known = c.args.self.now in
    let h = c.old_handler-old_handler.result in
    let is : c.forget-in-Sigaction-2.new.self ≡ slice_set (slice_set (slice_set (slice_set known 0 Unknown) 2 h) 3 Unknown) 4 Unknown = cc (c.forget.ensures.value, c.put.ensures.value, c.forget-in-Sigaction.ensures.value, c.forget-in-Sigaction-2.ensures.value) in
    λ old new. behind_call c.args.call known c.forget-in-Sigaction-2.new.self old new (λ (r : ℕ) (z : ℤ) (e : held c.forget-in-Sigaction-2.new.self r ≡ Constant z).
    let both = without_four known 2 3 4 r h z (c.old_handler-old_handler.ensures z) (subst (λ (k : List Held). held k r ≡ Constant z) is e) in
    (subst (λ (k : Call). Keeps k r) (sym c.in-Sigaction.is) both.0, both.1))

pub returns-in_default : goal.returns-in_default
returns-in_default c = λ old new. behind_call c.args.call c.args.self.now c.forget.new.self old new (λ (r : ℕ) (z : ℤ) (e : held c.forget.new.self r ≡ Constant z).
    let both = without_result c.args.self.now r z (subst (λ (k : List Held). held k r ≡ Constant z) c.forget.ensures.value e) in
    (keeps_most c.args.call r c.in_default.not-Waitpid c.in_default.not-Waitid c.in_default.not-Sigaction c.in_default.not-Sigprocmask c.in_default.not-Sigpending both.0, both.1))
