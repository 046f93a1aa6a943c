use Rattle.std.proofs.Common.{subst, sym, ap, ◌∙◌, ◌≡◌, arith, refl, [], ◌∷◌, replicate}
use Rattle.posix.specs.Common.{unused_console, first_process, inserted, AreFresh, boot, is_in}
use Rattle.posix.proofs.FreshLemmas.{first_fresh}
use Rattle.pidalloc.specs.Rows.{born_in, unborne_table}
use Rattle.life.specs.Machines.{AreTerminals}
use Rattle.life.proofs.RecheckLemmas.{listed_first}
use Rattle.life.proofs.SoundLemmas.{sound_first, first_is_boot, within_first}
use Rattle.pidset.specs.Numbers.{Rises}
use Rattle.life.proofs.machine.Machine.boot.Goals as goal

-- the table with only process 1
first_alone : first_process ∷ [] ≡ inserted first_process []
unfolding inserted
first_alone = refl

pub invariant_of-result : goal.invariant_of-result
unfolding Rises is_in
invariant_of-result g c =
    let bore = c.in_ok-lists.ensures.pids ∙ ap (λ m. record (born_in (unborne_table m) 1 1 1) { sizes = c.in_ok-lists.lists.pids.sizes }) c.pidmax-pidmax.ensures.value in
    let most = c.in_ok-lists.ensures.pidmax ∙ c.pidmax-pidmax.ensures.value in
    let unused : c.in_ok-terminals.terminals.consoles.items ≡ replicate c.in_ok-world.world.consoles unused_console = c.in_ok-terminals.ensures.consoles ∙ ap (λ n. replicate n unused_console) c.consoles.ensures.value in
    rw (c.in_ok-table.ensures.processes ∙ first_alone)
    (record {
      sound = sound_first _ _ _ _ unused (omega (arith, c.pidmax-pidmax.ensures.range.0, c.pidmax-pidmax.ensures.value)) bore most c.in_ok-lists.ensures.kept c.in_ok-lists.ensures.order c.in_ok-lists.ensures.places;
      listed = listed_first _ _ _ (first_is_boot _ _ c.in_ok-lists.lists.pids c.in_ok-lists.lists.order unused c.in_ok-lists.ensures.last c.in_ok-lists.ensures.order) c.in_ok-lists.ensures.nobody c.in_ok-lists.ensures.rechecks c.in_ok-terminals.ensures.nobody;
      fresh = subst AreFresh (sym (first_is_boot c.in_ok-world.world _ c.in_ok-lists.lists.pids c.in_ok-lists.lists.order unused c.in_ok-lists.ensures.last c.in_ok-lists.ensures.order)) (first_fresh c.in_ok-world.world);
      noted = record { rising = rw c.in_ok-lists.ensures.no_group tt; room = omega (arith, c.in_ok-lists.ensures.rechecks, c.in_ok-lists.ensures.groups) };
      indexed = subst (λ cs. AreTerminals cs c.in_ok-terminals.terminals.terminals.pairs) (sym c.in_ok-terminals.ensures.consoles) c.in_ok-terminals.ensures.terminals;
      within = within_first c.in_ok-terminals.ensures.nobody c.in_ok-terminals.ensures.room;
    })

pub returns-clause-state : goal.returns-clause-state
returns-clause-state g c =
    let unused : c.in_ok-terminals.terminals.consoles.items ≡ replicate c.in_ok-world.world.consoles unused_console = c.in_ok-terminals.ensures.consoles ∙ ap (λ n. replicate n unused_console) c.consoles.ensures.value in
    rw (c.in_ok-table.ensures.processes ∙ first_alone)
    (first_is_boot _ _ c.in_ok-lists.lists.pids c.in_ok-lists.lists.order unused c.in_ok-lists.ensures.last c.in_ok-lists.ensures.order ∙ ap boot c.in_ok-world.ensures)

pub returns-clause-regular : goal.returns-clause-regular
returns-clause-regular g c = (invariant_of-result g c).sound.regular
