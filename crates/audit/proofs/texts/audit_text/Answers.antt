use Rattle.std.proofs.Common.{◌≡◌, ◌∙◌, Err, ap, sym, subst, arith}
use Rattle.audit.specs.Texts.{IsFirstFault, IsLawfulBefore, IsNewBirthAt}
use Rattle.audit.specs.declared.fault.AuditFault.TheVariants.{Memory, NoLine}
use Rattle.audit.proofs.TextLemmas.{HasHeard, heard_more, heard_all, heard_before, new_birth, refused_line, first_line, refused_rest, first_rest, some_left, none_left}
use Rattle.audit.proofs.texts.audit_text.Goals as goal

pub loop-line-preserved : goal.loop-line-preserved
loop-line-preserved c = record {
  heard = heard_more c.args.text.now c.loop-line.number c.loop-line.rest.now c.in-Some.line.now c.in-Some.more.now c.loop-line.audit c.line.new.self c.loop-line.invariant.heard c.in-Some.ensures.cut
      c.in_default-line.ensures.ok;
  within = omega (arith, c.loop-line.invariant.within, c.in-Some.ensures.less);
}

pub returns-in-Err-clause-memory : goal.returns-in-Err-clause-memory
returns-in-Err-clause-memory c = λ fault is memory.
    let same : c.loop-line.number ≡ fault.line = cc in
    subst (λ n. IsLawfulBefore c.args.text.now n) same (heard_before c.args.text.now c.loop-line.number c.loop-line.rest.now c.loop-line.audit c.loop-line.invariant.heard)

pub returns-in-Err-clause-new_number : goal.returns-in-Err-clause-new_number
returns-in-Err-clause-new_number c = λ fault is memory other.
    let same : c.loop-line.number ≡ fault.line = cc in
    let code : c.in-Err.fault ≡ Memory = cc in
    subst (λ n. IsNewBirthAt c.args.text.now n) same
    (new_birth c.args.text.now c.loop-line.number c.loop-line.rest.now c.in-Some.line.now c.in-Some.more.now c.loop-line.audit c.loop-line.invariant.heard c.in-Some.ensures.cut
    (c.line.ensures.new_number (c.in-Err.is ∙ ap Err code)))

pub returns-in-Err-clause-refused : goal.returns-in-Err-clause-refused
returns-in-Err-clause-refused c = λ fault is other.
    let same : c.in-Err.fault ≡ fault.fault = cc in
    refused_line c.args.text.now c.loop-line.number c.loop-line.rest.now c.in-Some.line.now c.in-Some.more.now c.loop-line.audit c.loop-line.invariant.heard c.in-Some.ensures.cut
    (c.line.ensures.refused c.in-Err.fault c.in-Err.is (λ e. other (sym same ∙ e))).1

pub returns-in-Err-clause-first : goal.returns-in-Err-clause-first
returns-in-Err-clause-first c = λ fault is other.
    let same : record { line = c.loop-line.number; fault = c.in-Err.fault } ≡ fault = cc in
    let code : c.in-Err.fault ≡ fault.fault = cc in
    subst (λ f. IsFirstFault c.args.text.now f) same
    (first_line c.args.text.now c.loop-line.number c.loop-line.rest.now c.in-Some.line.now c.in-Some.more.now c.loop-line.audit c.in-Err.fault c.loop-line.invariant.heard c.in-Some.ensures.cut
    c.in-Err.ensures.first (c.line.ensures.refused c.in-Err.fault c.in-Err.is (λ e. other (sym code ∙ e))).1)

pub returns-then-is_empty-clause-ok : goal.returns-then-is_empty-clause-ok
returns-then-is_empty-clause-ok c =
    heard_all c.args.text.now c.loop-line.number c.loop-line.audit
    (subst (λ rest. HasHeard c.args.text.now c.loop-line.number rest c.loop-line.audit) (none_left c.loop-line.rest.now (sym c.is_empty.ensures ∙ c.if-is_empty.true)) c.loop-line.invariant.heard)

pub returns-clause-refused : goal.returns-clause-refused
returns-clause-refused c = λ fault is other.
    refused_rest c.args.text.now c.loop-line.number c.loop-line.rest.now c.loop-line.audit c.loop-line.invariant.heard (some_left c.loop-line.rest.now (sym c.is_empty.ensures ∙ c.if-is_empty.false)) c.in_default-next_line.ensures.cut

pub returns-clause-first : goal.returns-clause-first
returns-clause-first c = λ fault is other.
    let same : record { line = c.loop-line.number; fault = NoLine } ≡ fault = cc in
    subst (λ f. IsFirstFault c.args.text.now f) same (first_rest c.args.text.now c.loop-line.number c.loop-line.rest.now c.loop-line.audit c.loop-line.invariant.heard (some_left c.loop-line.rest.now (sym c.is_empty.ensures ∙ c.if-is_empty.false)) c.in_default-next_line.ensures.cut)
