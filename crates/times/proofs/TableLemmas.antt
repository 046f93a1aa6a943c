-- Shows that lookups and changes of processes don't depend on the time.
use Rattle.std.proofs.Common.{◌≡◌, ℕ, List, [], ◌∷◌, refl, arith}
use Rattle.std.specs.Prelude.{option_map}
use Rattle.posix.specs.Processes.{Process}
use Rattle.posix.specs.Tables.{lookup, changed, removed, members_in}
use Rattle.posix.specs.Generation.{signalled}
use Rattle.posix.specs.declared.process.PendingSignal.{PendingSignal}
use Rattle.times.specs.Times.{later, all_later}

pub lookup_later : (d p : ℕ) (rs : List Process) → lookup p (all_later d rs) ≡ option_map (later d) (lookup p rs)
unfolding lookup
lookup_later d p [] = refl
lookup_later d p (r ∷ rs) = grind (arith, lookup_later d p rs)

pub changed_later : (d p : ℕ) (f g : Process → Process) (rs : List Process) → ((r : Process) → f (later d r) ≡ later d (g r)) → changed p f (all_later d rs) ≡ all_later d (changed p g rs)
unfolding changed
changed_later d p f g [] h = refl
changed_later d p f g (r ∷ rs) h = grind (arith, changed_later d p f g rs h, h r)

pub removed_later : (d p : ℕ) (rs : List Process) → removed p (all_later d rs) ≡ all_later d (removed p rs)
unfolding removed
removed_later d p [] = refl
removed_later d p (r ∷ rs) = grind (arith, removed_later d p rs)

pub members_later : (d p : ℕ) (rs : List Process) → members_in p (all_later d rs) ≡ all_later d (members_in p rs)
unfolding members_in
members_later d p [] = refl
members_later d p (r ∷ rs) = grind (arith, members_later d p rs)

pub signalled_later : (d : ℕ) (m : PendingSignal) (r : Process) → signalled m (later d r) ≡ later d (signalled m r)
unfolding signalled
signalled_later d m r = grind arith
