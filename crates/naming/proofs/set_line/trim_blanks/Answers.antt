use Rattle.std.proofs.Common.{◌≡◌, ◌-◌, ◌∙◌, false, get_or, length, sym, true}
use Rattle.std.specs.Option.{option_to_list}
use Rattle.naming.specs.Sets.{is_blank}
use Rattle.naming.proofs.BlankLemmas.{popped, trimmed_all}
use Rattle.naming.proofs.LineLemmas.{front_one_line}
use Rattle.naming.proofs.set_line.trim_blanks.Goals as goal

pub loop-text-preserved : goal.loop-text-preserved
loop-text-preserved c =
    let old = c.loop-text.text.items in
    let blank : is_blank (get_or old (length old - 1) 0) ≡ true = rw c.as_slice.ensures.value at (sym c.ends_blank.ensures ∙ c.loop-text-test.true) in
    record {
      items = popped old c.pop.new.self.items c.pop.result c.pop.ensures.items blank ∙ c.loop-text.invariant.items;
      one_line = λ one. front_one_line old c.pop.new.self.items (option_to_list c.pop.result) c.pop.ensures.items (c.loop-text.invariant.one_line one);
    }

pub returns-clause-items : goal.returns-clause-items
returns-clause-items c =
    let text = c.loop-text.text.items in
    let other : is_blank (get_or text (length text - 1) 0) ≡ false = rw c.as_slice.ensures.value at (sym c.ends_blank.ensures ∙ c.loop-text-test.false) in
    sym (trimmed_all text other) ∙ c.loop-text.invariant.items
