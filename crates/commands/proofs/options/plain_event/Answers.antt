use Rattle.std.proofs.Common.{◌∙◌, ◌++◌, ap}
use Rattle.std.proofs.lemmas.Result.{IfOk-weaker}
use Rattle.std.specs.Str.Lossy.{utf8_lossy}
use Rattle.commands.proofs.options.plain_event.Goals as goal

pub returns : goal.returns
returns c =
    IfOk-weaker c.format.result _ _
    (λ plain is. (
      c.in_ok-named.named.text.items,
      c.in_ok-named.named.told.items,
      (rw c.as_bytes.ensures.value at c.in_ok-named.ensures),
      is ∙ ap (λ text. c.args.before.now ++ text) (c.in_ok-plain.ensures.lossy ∙ ap utf8_lossy c.as_slice.ensures.value),
    ))
    c.format.ensures.ok
