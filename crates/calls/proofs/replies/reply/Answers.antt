use Rattle.std.proofs.Common.{◌≡◌, ◌∙◌, ap, refl, pos, rules, to_z, of_z, w64}
use Rattle.posix.specs.declared.call.Call.TheVariants.{Getpid, Getuid, Geteuid, Getgid, Getegid, Setuid, Seteuid, Setgid, Setegid, Sigaction, Sigprocmask, Sigpending}
use Rattle.posix.specs.Common.{attempt, setuid, seteuid, setgid, setegid, sigaction, sigprocmask, sigpending}
use Rattle.calls.specs.Outcomes.{with_own}
use Rattle.calls.proofs.OwnLemmas.{gives_plain, gives_reply, gives_ids}
use Rattle.calls.proofs.replies.reply.Goals as goal

pub returns-in-Getpid : goal.returns-in-Getpid
unfolding attempt
returns-in-Getpid c = λ r.
    let given : to_z w64 (of_z w64 c.from.result) ≡ c.from.result = search rules in
    rw c.in-Getpid.is (gives_plain (with_own c.args.pid c.args.own.now r) Getpid c.args.own.now _ _ (given ∙ c.from.ensures ∙ ap pos c.number.ensures.value) (λ granted s. refl))

pub returns-in-Getuid : goal.returns-in-Getuid
unfolding attempt
returns-in-Getuid c = λ r.
    let given : to_z w64 (of_z w64 c.from-in-Getuid.result) ≡ c.from-in-Getuid.result = search rules in
    rw c.in-Getuid.is (gives_plain (with_own c.args.pid c.args.own.now r) Getuid c.args.own.now _ _ (given ∙ c.from-in-Getuid.ensures ∙ ap pos (c.number-in-Getuid.ensures.value ∙ ap (λ ids. ids.real) c.user.ensures)) (λ granted s. refl))

pub returns-in-Geteuid : goal.returns-in-Geteuid
unfolding attempt
returns-in-Geteuid c = λ r.
    let given : to_z w64 (of_z w64 c.from-in-Geteuid.result) ≡ c.from-in-Geteuid.result = search rules in
    rw c.in-Geteuid.is (gives_plain (with_own c.args.pid c.args.own.now r) Geteuid c.args.own.now _ _ (given ∙ c.from-in-Geteuid.ensures ∙ ap pos (c.number-in-Geteuid.ensures.value ∙ ap (λ ids. ids.effective) c.user-in-Geteuid.ensures)) (λ granted s. refl))

pub returns-in-Getgid : goal.returns-in-Getgid
unfolding attempt
returns-in-Getgid c = λ r.
    let given : to_z w64 (of_z w64 c.from-in-Getgid.result) ≡ c.from-in-Getgid.result = search rules in
    rw c.in-Getgid.is (gives_plain (with_own c.args.pid c.args.own.now r) Getgid c.args.own.now _ _ (given ∙ c.from-in-Getgid.ensures ∙ ap pos (c.number-in-Getgid.ensures.value ∙ ap (λ ids. ids.real) c.group.ensures)) (λ granted s. refl))

pub returns-in-Getegid : goal.returns-in-Getegid
unfolding attempt
returns-in-Getegid c = λ r.
    let given : to_z w64 (of_z w64 c.from-in-Getegid.result) ≡ c.from-in-Getegid.result = search rules in
    rw c.in-Getegid.is (gives_plain (with_own c.args.pid c.args.own.now r) Getegid c.args.own.now _ _ (given ∙ c.from-in-Getegid.ensures ∙ ap pos (c.number-in-Getegid.ensures.value ∙ ap (λ ids. ids.effective) c.group-in-Getegid.ensures)) (λ granted s. refl))

pub returns-in-Setuid : goal.returns-in-Setuid
unfolding attempt
returns-in-Setuid c = λ r.
    let o = c.args.own.now in
    let given : to_z w64 (of_z w64 c.word_of.result) ≡ c.word_of.result = search rules in
    let kept : to_z w64 (of_z w64 c.register-argument.result) ≡ c.register-argument.result = search rules in
    rw c.in-Setuid.is
    (gives_ids (with_own c.args.pid o r) Setuid o c.setuid.new.self _ c.setuid.result _ _ (given ∙ c.word_of.ensures) (ap (setuid o.creds) (kept ∙ c.register-argument.ensures)) c.setuid.ensures.ok c.setuid.ensures.err c.setuid.ensures.same (λ granted s. refl))

pub returns-in-Seteuid : goal.returns-in-Seteuid
unfolding attempt
returns-in-Seteuid c = λ r.
    let o = c.args.own.now in
    let given : to_z w64 (of_z w64 c.word_of-in-Seteuid.result) ≡ c.word_of-in-Seteuid.result = search rules in
    let kept : to_z w64 (of_z w64 c.register-argument.result) ≡ c.register-argument.result = search rules in
    rw c.in-Seteuid.is
    (gives_ids (with_own c.args.pid o r) Seteuid o c.seteuid.new.self _ c.seteuid.result _ _ (given ∙ c.word_of-in-Seteuid.ensures) (ap (seteuid o.creds) (kept ∙ c.register-argument.ensures)) c.seteuid.ensures.ok c.seteuid.ensures.err c.seteuid.ensures.same (λ granted s. refl))

pub returns-in-Setgid : goal.returns-in-Setgid
unfolding attempt
returns-in-Setgid c = λ r.
    let o = c.args.own.now in
    let given : to_z w64 (of_z w64 c.word_of-in-Setgid.result) ≡ c.word_of-in-Setgid.result = search rules in
    let kept : to_z w64 (of_z w64 c.register-argument.result) ≡ c.register-argument.result = search rules in
    rw c.in-Setgid.is
    (gives_ids (with_own c.args.pid o r) Setgid o c.setgid.new.self _ c.setgid.result _ _ (given ∙ c.word_of-in-Setgid.ensures) (ap (setgid o.creds) (kept ∙ c.register-argument.ensures)) c.setgid.ensures.ok c.setgid.ensures.err c.setgid.ensures.same (λ granted s. refl))

pub returns-in-Setegid : goal.returns-in-Setegid
unfolding attempt
returns-in-Setegid c = λ r.
    let o = c.args.own.now in
    let given : to_z w64 (of_z w64 c.word_of-in-Setegid.result) ≡ c.word_of-in-Setegid.result = search rules in
    let kept : to_z w64 (of_z w64 c.register-argument.result) ≡ c.register-argument.result = search rules in
    rw c.in-Setegid.is
    (gives_ids (with_own c.args.pid o r) Setegid o c.setegid.new.self _ c.setegid.result _ _ (given ∙ c.word_of-in-Setegid.ensures) (ap (setegid o.creds) (kept ∙ c.register-argument.ensures)) c.setegid.ensures.ok c.setegid.ensures.err c.setegid.ensures.same (λ granted s. refl))

pub returns-in-Sigaction : goal.returns-in-Sigaction
unfolding attempt
returns-in-Sigaction c = λ r.
    let x = with_own c.args.pid c.args.own.now r in
    let given : to_z w64 (of_z w64 c.word_of-in-Sigaction.result) ≡ c.word_of-in-Sigaction.result = search rules in
    rw c.in-Sigaction.is (gives_reply x Sigaction c.args.own.now c.sigaction.new.own _ _ (sigaction x) (given ∙ c.word_of-in-Sigaction.ensures) (c.sigaction.ensures (record r { pid = c.args.pid })) (λ granted s. refl))

pub returns-in-Sigprocmask : goal.returns-in-Sigprocmask
unfolding attempt
returns-in-Sigprocmask c = λ r.
    let x = with_own c.args.pid c.args.own.now r in
    let given : to_z w64 (of_z w64 c.word_of-in-Sigprocmask.result) ≡ c.word_of-in-Sigprocmask.result = search rules in
    rw c.in-Sigprocmask.is (gives_reply x Sigprocmask c.args.own.now c.sigprocmask.new.own _ _ (sigprocmask x) (given ∙ c.word_of-in-Sigprocmask.ensures) (c.sigprocmask.ensures (record r { pid = c.args.pid })) (λ granted s. refl))

pub returns-in-Sigpending : goal.returns-in-Sigpending
unfolding attempt
returns-in-Sigpending c = λ r.
    let x = with_own c.args.pid c.args.own.now r in
    let given : to_z w64 (of_z w64 c.word_of-in-Sigpending.result) ≡ c.word_of-in-Sigpending.result = search rules in
    rw c.in-Sigpending.is (gives_reply x Sigpending c.args.own.now c.sigpending.new.own _ _ (sigpending x) (given ∙ c.word_of-in-Sigpending.ensures) (c.sigpending.ensures (record r { pid = c.args.pid })) (λ granted s. refl))
