use Rattle.merging.specs.Merging.{HasPut, kind_tally, over_kinds}
use Rattle.merging.proofs.spreading.put_loose.Given as goal

-- The loose events so far were inserted.
abbrev pub invariant-loop-number : goal.invariant-loop-number
invariant-loop-number l =
    let s = l.search in
    HasPut s l.place l.index l.begun (λ has p. over_kinds (kind_tally has s l.place p l.begun) l.number p.left) l.fn.here.nodes.items l.here.nodes.items
