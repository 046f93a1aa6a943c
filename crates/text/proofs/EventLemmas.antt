-- Laws of events that are stored as runs.
use Rattle.std.proofs.Common.{◌≡◌, ℕ, ◌+◌, List, [], ◌∷◌, ◌++◌, length, get_or, ap, sym, ◌∙◌, append_assoc, append-nil, arith, zero, suc}
use Rattle.std.proofs.Math.ListN.{set}
use Rattle.std.proofs.lemmas.List.{replicate-append-replicate, get_or_default}
use Rattle.std.specs.Prelude.{replicate}
use Rattle.std.proofs.lemmas.Grind.{common_steps}
use Rattle.posix.specs.declared.event.Event.{Event}
use Rattle.text.specs.EventLists.{CountedEvent, expanded}

-- another run adds its events at the end
pub expanded_push : (rs : List CountedEvent) (r : CountedEvent) → expanded (rs ++ r ∷ []) ≡ expanded rs ++ replicate r.count r.event
expanded_push rs r = grind (arith, common_steps)

-- if the last run grows by n, n of its events are added at the end
last_grow : (rs : List CountedEvent) (i n : ℕ) (d : CountedEvent) → i + 1 ≡ length rs →
    expanded (set rs i (record { event = (get_or rs i d).event; count = (get_or rs i d).count + n })) ≡ expanded rs ++ replicate n (get_or rs i d).event
last_grow [] i n d h = absurd (omega arith)
last_grow (r ∷ []) zero n d h =
    append-nil (replicate (r.count + n) r.event) ∙ sym (replicate-append-replicate r.count n r.event) ∙ ap (λ (es : List Event). es ++ replicate n r.event) (sym (append-nil (replicate r.count r.event)))
last_grow (r ∷ []) (suc i) n d h = absurd (omega arith)
last_grow (r ∷ q ∷ rs) zero n d h = absurd (omega arith)
last_grow (r ∷ q ∷ rs) (suc i) n d h =
    ap (λ (es : List Event). replicate r.count r.event ++ es) (last_grow (q ∷ rs) i n d (omega arith))
    ∙ sym (append_assoc (replicate r.count r.event) (expanded (q ∷ rs)) (replicate n (get_or (q ∷ rs) i d).event))

-- the last run grows
pub expanded_grow : (rs : List CountedEvent) (i n : ℕ) (r q : CountedEvent) (event : Event) → i + 1 ≡ length rs → r ≡ get_or rs i r → q ≡ get_or rs i q → q.event ≡ event →
    expanded (set rs i (record { event = event; count = r.count + n })) ≡ expanded rs ++ replicate n event
expanded_grow rs i n r q event last r_is q_is same =
    let e : r ≡ get_or rs i q = r_is ∙ get_or_default rs i r q (omega arith) in
    let f : (get_or rs i q).event ≡ event = ap (λ (x : CountedEvent). x.event) (sym q_is) ∙ same in
    rw (e, ← f) (last_grow rs i n q last)

pub ruleset expanded_rules = (expanded_push)
