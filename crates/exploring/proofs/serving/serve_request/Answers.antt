use Rattle.std.proofs.Common.{length, refl, inr}
use Rattle.std.specs.Prelude.{option_map}
use Rattle.std.specs.String.{string_bytes}
use Rattle.exploring.specs.Reports.{bytes_put}
use Rattle.exploring.specs.Serving.{is_told}
use Rattle.exploring.specs.Words.{Put, said}
use Rattle.exploring.proofs.FirstLemmas.{of_family}
use Rattle.exploring.proofs.ServingLemmas.{explored, means_explored, means_memory, means_refused, means_unmatchable, means_unwritten, no_event, no_place, too_many}
use Rattle.exploring.proofs.serving.serve_request.Goals as goal

pub text_of-made-requires : goal.text_of-made-requires
text_of-made-requires g c =
    of_family c.in_ok-inputs.inputs.world c.as_slice-loose.result.now c.in_ok-inputs.inputs.events (said c.args.request.now).finds c.in_ok-upto.upto c.in_ok-ticks.ticks c.in_ok-book.book c.in_ok-book.ensures

pub returns-in_err-check_finds : goal.returns-in_err-check_finds
returns-in_err-check_finds g c =
    means_unmatchable _ (said c.args.request.now) _ _ _ c.from_residual-in_err-check_finds.result c.in_err-check_finds.field-0.0 c.from_residual-in_err-check_finds.ensures.1 c.in_err-check_finds.ensures

pub returns-in_err-put_in : goal.returns-in_err-put_in
returns-in_err-put_in g c =
    let a = said c.args.request.now in
    let inputs = c.in_ok-inputs.inputs in
    means_refused _ a _ _ _ inputs.world inputs.events c.from_residual-in_err-put_in.result c.in_err-put_in.field-0.0 _ c.from_residual-in_err-put_in.ensures.1 c.in_ok-inputs.ensures.reads
    (no_event a inputs.world.consoles (length inputs.events) c.in_ok-ticks.ticks c.in_ok-upto.upto c.in_ok-states.states c.in_ok-ticks.ensures.1 (rw c.len.ensures at c.in_ok-upto.ensures.1) c.in_ok-states.ensures)
    (rw c.consoles.ensures.value at c.in_err-put_in.ensures)

pub returns-in_err-fit_in : goal.returns-in_err-fit_in
returns-in_err-fit_in g c =
    let a = said c.args.request.now in
    let inputs = c.in_ok-inputs.inputs in
    let p : Put = record { upto = c.in_ok-upto.upto; ticks = c.in_ok-ticks.ticks; loose = c.in_ok-put_in.put_in.items } in
    means_refused _ a _ _ _ inputs.world inputs.events c.from_residual-in_err-fit_in.result c.in_err-fit_in.field-0.0 _ c.from_residual-in_err-fit_in.ensures.1 c.in_ok-inputs.ensures.reads
    (no_place a inputs.world.consoles (length inputs.events) p c.in_ok-states.states c.in_ok-ticks.ensures.1 (rw c.len.ensures at c.in_ok-upto.ensures.1) c.in_ok-states.ensures
    (rw c.consoles.ensures.value at c.in_ok-put_in.ensures))
    (inr (rw c.as_slice-loose.ensures.value at c.in_err-fit_in.ensures.fit))

pub returns-in_err-size : goal.returns-in_err-size
returns-in_err-size g c =
    let a = said c.args.request.now in
    let inputs = c.in_ok-inputs.inputs in
    let p : Put = record { upto = c.in_ok-upto.upto; ticks = c.in_ok-ticks.ticks; loose = c.in_ok-put_in.put_in.items } in
    means_refused _ a _ _ _ inputs.world inputs.events c.from_residual-in_err-size.result c.in_err-size.field-0.0 _ c.from_residual-in_err-size.ensures.1 c.in_ok-inputs.ensures.reads
    (too_many a inputs.world.consoles (length inputs.events) p c.in_ok-states.states c.in_ok-ticks.ensures.1 (rw c.len.ensures at c.in_ok-upto.ensures.1) c.in_ok-states.ensures
    (rw c.consoles.ensures.value at c.in_ok-put_in.ensures) (rw c.as_slice-loose.ensures.value at c.in_ok-fit_in.ensures.fit))
    (inr (rw (c.len-2.ensures, c.as_slice-loose.ensures.value) at c.in_err-size.ensures.size))

pub returns-in_err-text : goal.returns-in_err-text
returns-in_err-text g c = means_memory _ _ _ _ _ c.from_residual-in_err-text.result c.from_residual-in_err-text.ensures.1

pub returns-in_err-put_text : goal.returns-in_err-put_text
returns-in_err-put_text g c =
    let a = said c.args.request.now in
    let inputs = c.in_ok-inputs.inputs in
    let told = is_told a.must_halt c.in_ok-book.book in
    let p : Put = record { upto = c.in_ok-upto.upto; ticks = c.in_ok-ticks.ticks; loose = c.in_ok-put_in.put_in.items } in
    means_unwritten _ a _ _ _ _ told c.from_residual-in_err-put_text.result c.from_residual-in_err-put_text.ensures.1
    (explored _ a inputs.world inputs.events p c.in_ok-states.states c.in_ok-written.written c.in_ok-book.book told (bytes_put (option_map string_bytes c.in_ok-text.text)) _
    c.in_ok-inputs.ensures.reads c.in_ok-check_finds.ensures c.in_ok-ticks.ensures.1 (rw c.len.ensures at c.in_ok-upto.ensures.1) c.in_ok-states.ensures (rw c.consoles.ensures.value at c.in_ok-put_in.ensures)
    (rw c.as_slice-loose.ensures.value at c.in_ok-fit_in.ensures.fit) (rw (c.len-2.ensures, c.as_slice-loose.ensures.value) at c.in_ok-size.ensures.size.1)
    (rw c.as_slice-loose.ensures.value at c.in_ok-book.ensures) refl c.in_ok-written.ensures
    (rw c.as_slice-loose.ensures.value at c.in_ok-text.ensures) c.in_err-put_text.ensures.err)

pub returns : goal.returns
returns g c =
    let a = said c.args.request.now in
    let inputs = c.in_ok-inputs.inputs in
    let p : Put = record { upto = c.in_ok-upto.upto; ticks = c.in_ok-ticks.ticks; loose = c.in_ok-put_in.put_in.items } in
    means_explored _ a _ _ _ _ c.is_told-is_told.result
    (explored _ a inputs.world inputs.events p c.in_ok-states.states c.in_ok-written.written c.in_ok-book.book c.is_told-is_told.result (bytes_put (option_map string_bytes c.in_ok-text.text)) _
    c.in_ok-inputs.ensures.reads c.in_ok-check_finds.ensures c.in_ok-ticks.ensures.1 (rw c.len.ensures at c.in_ok-upto.ensures.1) c.in_ok-states.ensures (rw c.consoles.ensures.value at c.in_ok-put_in.ensures)
    (rw c.as_slice-loose.ensures.value at c.in_ok-fit_in.ensures.fit) (rw (c.len-2.ensures, c.as_slice-loose.ensures.value) at c.in_ok-size.ensures.size.1)
    (rw c.as_slice-loose.ensures.value at c.in_ok-book.ensures) c.is_told-is_told.ensures c.in_ok-written.ensures
    (rw c.as_slice-loose.ensures.value at c.in_ok-text.ensures) c.in_ok-put_text.ensures.ok)
