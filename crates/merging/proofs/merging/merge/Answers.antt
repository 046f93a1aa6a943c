use Rattle.std.proofs.Common.{◌≡◌, ◌∙◌, ap, sym}
use Rattle.counting.specs.Books.{empty_book}
use Rattle.merging.specs.declared.search.Search.{Search}
use Rattle.merging.specs.Merging.{counted_all, texts_of}
use Rattle.merging.proofs.MergedLemmas.{merged_book}
use Rattle.merging.proofs.StopLemmas.{stopped_by_memory, stops_too}
use Rattle.merging.proofs.merging.merge.Goals as goal

pub returns-clause-book : goal.returns-clause-book
returns-clause-book g c =
    let s : Search = record { alloc = c.args.alloc; family = c.args.family; texts = c.args.texts } in
    let last = c.in_ok-last.ensures in
    let empty : c.tell_states.new.self ≡ empty_book (texts_of s) = c.tell_states.ensures ∙ c.in_ok-book.ensures in
    c.in_ok-count_all.ensures
    ∙ ap (counted_all (texts_of s) c.in_ok-rest.rest c.in_ok-last.last.nodes.items) empty
    ∙ merged_book s c.in_ok-rest.rest c.in_ok-last.last.nodes.items c.in_ok-rest.ensures last.nodes last.passed (λ has. last.tally has ∙ c.in_ok-first.ensures.tally has)

pub returns-in_err-last-clause-stop : goal.returns-in_err-last-clause-stop
returns-in_err-last-clause-stop g c =
    let s : Search = record { alloc = c.args.alloc; family = c.args.family; texts = c.args.texts } in
    stops_too s _ _ c.from_residual-in_err-last.result c.in_err-last.field-0.0 c.from_residual-in_err-last.ensures.1 (λ has. sym (c.in_ok-first.ensures.tally has)) c.in_err-last.ensures.stop

pub returns-in_err-count_all-clause-stop : goal.returns-in_err-count_all-clause-stop
returns-in_err-count_all-clause-stop g c = stopped_by_memory _ _ c.from_residual-in_err-count_all.result c.from_residual-in_err-count_all.ensures.1
