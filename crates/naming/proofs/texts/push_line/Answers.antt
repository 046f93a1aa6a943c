use Rattle.std.proofs.Common.{◌≡◌, ◌∙◌, ◌++◌, List, ℕ, ap, subst}
use Rattle.std.specs.Prelude.{Err, Ok, OnOk, Result, if◌then◌else◌, is_ok}
use Rattle.std.proofs.lemmas.Result.{on_ok_weaker}
use Rattle.naming.specs.Lines.{IsOneLine}
use Rattle.naming.proofs.TextLemmas.{said_one_line}
use Rattle.naming.proofs.texts.push_line.Goals as goal

-- If the call succeeded, all bytes were added.
added : {T E : Type 0} (r : Result T E) (new whole old : List ℕ) → new ≡ (if is_ok r then whole else old) → OnOk r (new ≡ whole)
added (Ok x) new whole old h = h
added (Err e) new whole old h = tt

pub returns : goal.returns
returns c =
    let line = c.args.line.now in
    let named = c.in_ok-outcome.ensures in
    let outcome = c.in_ok-outcome.outcome in
    on_ok_weaker c.extend_from_slice.result
    (λ put. record {
      given = c.requires;
      one_line = subst IsOneLine named.is (said_one_line line outcome c.requires (named.one_line c.requires));
      text_is = put ∙ ap (λ (x : List ℕ). c.args.text.now.items ++ x) (c.text.ensures ∙ named.is);
      told_is = named.told;
    })
    (added c.extend_from_slice.result c.extend_from_slice.new.self.items (c.args.text.now.items ++ c.text.result.now) c.args.text.now.items c.extend_from_slice.ensures.items)
