use Rattle.std.proofs.Common.{◌≡◌, true, ◌∙◌, ap, sym, nat_cmp, is_some, option_copied, None, Some}
use Rattle.std.specs.BTreeMap.{get, is_at}
use Rattle.std.specs.Map.{lookup}
use Rattle.text.proofs.NameLemmas.{stood, stands, copied_some}
use Rattle.posix.proofs.ResultLemmas.{none_from, on_err}
use Rattle.text.proofs.names.index.Goals as goal

pub returns-then-is_some-clause-ok : goal.returns-then-is_some-clause-ok
returns-then-is_some-clause-ok c n h =
    let there : is_some (get nat_cmp c.args.numbers.now c.key-key.result) ≡ true = ap is_some (sym c.get.ensures.value) ∙ copied_some c.get.result ∙ sym c.is_some.ensures ∙ c.if-is_some.true in
    stood c.args.name.now n c.args.number (get nat_cmp c.args.numbers.now) (ap (λ k. is_some (get nat_cmp c.args.numbers.now k)) (sym c.key-key.ensures.value) ∙ there)

pub returns-in_err-insert-clause-err : goal.returns-in_err-insert-clause-err
returns-in_err-insert-clause-err c = on_err c.from_residual.result (λ key. ap (lookup (is_at (nat_cmp key))) c.in_err-insert.ensures.err)

pub returns-clause-ok : goal.returns-clause-ok
returns-clause-ok c n h =
    let key = sym c.key-key.ensures.value in
    let none : get nat_cmp c.args.numbers.now c.key-key.result ≡ None = sym c.get.ensures.value ∙ ap option_copied (none_from c.get.result (sym c.is_some.ensures ∙ c.if-is_some.false)) in
    let here : get nat_cmp c.insert.new.self c.key-key.result ≡ Some c.args.number = c.in_ok-insert.ensures.updates.1 in
    stands c.args.name.now n c.key-key.result c.args.number (get nat_cmp c.args.numbers.now) (get nat_cmp c.insert.new.self) c.key-key.ensures.name h c.key-key.ensures.value none here c.in_ok-insert.ensures.updates.2
