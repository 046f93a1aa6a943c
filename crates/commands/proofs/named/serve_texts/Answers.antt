use Rattle.std.proofs.Common.{◌∙◌, ap, map, subst}
use Rattle.std.specs.String.{string_bytes}
use Rattle.refusing.specs.Texts.{named_files}
use Rattle.commands.specs.Commands.{ServesAs, purpose_of}
use Rattle.commands.specs.Named.{over_texts}
use Rattle.commands.proofs.named.serve_texts.Goals as goal

pub returns-clause-ok : goal.returns-clause-ok
returns-clause-ok g c =
    let are = ap (map (λ w. w.now)) c.as_slice-2.ensures.value ∙ c.in_ok-words.ensures ∙ ap (λ ps. over_texts c.args.command.now (map string_bytes ps)) c.as_slice.ensures.value in
    let status = c.serve_command-status in
    record {
      plain = map string_bytes c.in_ok-plain.plain.items;
      are_plain = c.in_ok-plain.ensures;
      serves = subst (λ ws. ServesAs (named_files c.args.texts.now) c.args.out.now status.new.out (g.O.Sink.seen c.args.out.now) (g.O.Sink.seen status.new.out) status.result (purpose_of ws)) are status.ensures;
    }
