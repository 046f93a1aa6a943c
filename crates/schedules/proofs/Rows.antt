-- Small families, computed.
use Rattle.std.proofs.Common.{◌≡◌, refl, [], ◌∷◌, length}
use Rattle.posix.specs.declared.event.Event.TheVariants.{Step, Tick, Key}
use Rattle.schedules.specs.Families.{family, of_at_most}
use Rattle.schedules.specs.Schedules.{scheduled}

two_in_three : family 3 2 0 ≡ [] ∷ (0 ∷ []) ∷ (1 ∷ []) ∷ (2 ∷ []) ∷ (0 ∷ 0 ∷ []) ∷ (0 ∷ 1 ∷ []) ∷ (0 ∷ 2 ∷ []) ∷ (1 ∷ 1 ∷ []) ∷ (1 ∷ 2 ∷ []) ∷ (2 ∷ 2 ∷ []) ∷ []
unfolding of_at_most
two_in_three = refl

-- With one loose event the spots of a tick are 0 at the first place and 2 at the second, and those of the event 1 and
-- 3.
event_in_two : family 2 0 1 ≡ (1 ∷ []) ∷ (3 ∷ []) ∷ []
unfolding of_at_most
event_in_two = refl

both_in_one : family 1 1 1 ≡ (1 ∷ []) ∷ (0 ∷ 1 ∷ []) ∷ (1 ∷ 0 ∷ []) ∷ []
unfolding of_at_most
both_in_one = refl

two_events_in_one : family 1 0 2 ≡ (1 ∷ 2 ∷ []) ∷ (2 ∷ 1 ∷ []) ∷ []
unfolding of_at_most
two_events_in_one = refl

-- 5 over 3, 9 over 3, 10 over 4, 47 over 2; with loose events 3 places for the first, 4 for the second, and 5 over 1
-- for a tick
sizes : (length (family 2 3 0) ≡ 10) × (length (family 6 3 0) ≡ 84) × (length (family 6 4 0) ≡ 210) × (length (family 45 2 0) ≡ 1081) × (length (family 0 8 0) ≡ 1) × (length (family 3 1 2) ≡ 72)
unfolding of_at_most
sizes = (refl, refl, refl, refl, refl, refl)

placed : scheduled [] (Step ∷ Step ∷ Step ∷ []) (1 ∷ 1 ∷ 2 ∷ []) ≡ Step ∷ Tick ∷ Tick ∷ Step ∷ Tick ∷ Step ∷ []
unfolding scheduled
placed = refl

-- The key before the second event, and a tick before it.
put_in : scheduled (Key 1 3 ∷ []) (Step ∷ Step ∷ []) (2 ∷ 3 ∷ []) ≡ Step ∷ Tick ∷ Key 1 3 ∷ Step ∷ []
unfolding scheduled
put_in = refl
