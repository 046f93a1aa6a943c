-- Signalling the processes one after another, from the lowest ID on, is sending to all that are selected.
use Rattle.std.proofs.Common.{◌≡◌, ◌⊎◌, inl, inr, ◌+◌, nat_le, ℕ, Bool, true, false, refl, ap, sym, ◌∙◌, arith, List, [], ◌∷◌, ◌++◌, append-nil, filter, map, length, nat_lt, Option, Some, None}
use Rattle.std.specs.Ordering.{ord_max}
use Rattle.std.proofs.lemmas.List.{map-append, length-map}
use Rattle.std.proofs.lemmas.List.Elements.{filter-append}
use Rattle.std.proofs.lemmas.Bool.{cond_both}
use Rattle.std.proofs.lemmas.Simd.{map-map}
use Rattle.posix.specs.declared.process.Effect.{Effect}
use Rattle.posix.specs.declared.process.Effect.TheVariants as effect
use Rattle.posix.specs.declared.process.PendingSignal.{PendingSignal}
use Rattle.posix.specs.declared.process.Sending.{Sending}
use Rattle.posix.specs.declared.process.Sending.TheVariants as found
use Rattle.posix.specs.contracts.process.SendingOrd.TheImpl as sendings
use Rattle.posix.specs.declared.target.Target.{Target}
use Rattle.posix.specs.declared.target.Target.TheVariants as whom
use Rattle.posix.specs.Common.{Process, first_process, IsRising, IsNext, has_pid, lookup, pids, changed, above, first_pid, left_of, may, continued, signalled, effect_of, ignores_stops, noticed_of_change, child_signal, told_of_change, resumed, acted_upon, generated_for, signalled_all, is_target, targets, permitted, sending_permitted, sending_found, number_of, sent_among}
use Rattle.posix.proofs.MapLemmas.{at_keeps, filter_map}
use Rattle.posix.proofs.WalkLemmas.{AtOne, numbered, numbered_one, numbered_none, one_less, rest_of_walk, walk_splits}
use Rattle.life.specs.Queues.{joined}
use Rattle.life.specs.Rechecks.{rechecking_generated, rechecking_all, rechecking_signalled, is_candidate}

-- ---- what a sender asks of a process

-- its number, its group, its session and its credentials; all else is as at boot
abbrev pub blank : Process → Process
blank r = record first_process { pid = r.pid; group = r.group; session = r.session; credentials = r.credentials }

-- two lists that agree on it agree on what depends on nothing else
same_by : {A : Type 0} (f : List Process → A) → ((rs : List Process) → f (map blank rs) ≡ f rs) → (xs ys : List Process) → map blank xs ≡ map blank ys → f xs ≡ f ys
same_by f blind xs ys e = sym (blind xs) ∙ ap f e ∙ blind ys

-- and those in them agree that pass a test that depends on nothing else
same_filter : (t : Process → Bool) → ((r : Process) → t (blank r) ≡ t r) → (xs ys : List Process) → map blank xs ≡ map blank ys → map blank (filter t xs) ≡ map blank (filter t ys)
same_filter t same xs ys e = sym (filter_map t blank same xs) ∙ ap (filter t) e ∙ filter_map t blank same ys

same_above : (p : ℕ) (xs ys : List Process) → map blank xs ≡ map blank ys → map blank (above p xs) ≡ map blank (above p ys)
same_above p xs ys e = same_filter (λ r. nat_lt p r.pid) (λ r. refl) xs ys e

-- nothing else decides whether a process is selected
meant_blank : (me : Process) (target : Target) (r : Process) → is_target me target (blank r) ≡ is_target me target r
meant_blank me (whom.Process p) r = refl
meant_blank me target r = refl

-- ---- a signal leaves it as it is

-- if a change of one process leaves it as it is, the table agrees with what it was before
blank_changed : (p : ℕ) (f : Process → Process) → ((r : Process) → blank (f r) ≡ blank r) → (rs : List Process) → map blank (changed p f rs) ≡ map blank rs
unfolding changed
blank_changed p f keeps [] = refl
blank_changed p f keeps (r ∷ rs) = let here = at_keeps blank p f keeps r in let rest = blank_changed p f keeps rs in cc

blank_signalled : (signal : PendingSignal) (r : Process) → blank (signalled signal r) ≡ blank r
unfolding signalled
blank_signalled signal r = refl

blank_resumed : (r : Process) → blank (resumed r) ≡ blank r
unfolding resumed
blank_resumed r = refl

blank_noticed : (signal : PendingSignal) (r : Process) → blank (noticed_of_change signal r) ≡ blank r
unfolding noticed_of_change
blank_noticed signal r = cond_both (ignores_stops r.signals) r (signalled signal r) (λ q. blank q ≡ blank r) (λ e. refl) (λ e. blank_signalled signal r)

-- it stays if a process continues, and its parent is notified
blank_acted : (what : Effect) (r : Process) (rs : List Process) → map blank (acted_upon what r rs) ≡ map blank rs
unfolding told_of_change
blank_acted effect.Nothing r rs = refl
blank_acted effect.Continued r rs = blank_changed r.parent _ (blank_noticed (child_signal r.pid continued)) (changed r.pid resumed rs) ∙ blank_changed r.pid resumed blank_resumed rs

blank_generated : (signal : PendingSignal) (o : Option Process) (rs : List Process) → map blank (generated_for signal o rs) ≡ map blank rs
blank_generated signal None rs = refl
blank_generated signal (Some r) rs = blank_acted (effect_of r.pid r.life signal r.signals) r (changed r.pid (signalled signal) rs) ∙ blank_changed r.pid (signalled signal) (blank_signalled signal) rs

blank_signalled_all : (signal : PendingSignal) (ps : List ℕ) (rs : List Process) → map blank (signalled_all signal ps rs) ≡ map blank rs
unfolding signalled_all
blank_signalled_all signal [] rs = refl
blank_signalled_all signal (p ∷ ps) rs = blank_signalled_all signal ps (generated_for signal (lookup p rs) rs) ∙ blank_generated signal (lookup p rs) rs

-- ---- the candidates that are left

-- a test that all pass leaves all
pub all_pass : (t : Process → Bool) → ((r : Process) → t r ≡ true) → (rs : List Process) → filter t rs ≡ rs
all_pass t h [] = refl
all_pass t h (r ∷ rs) = rw (h r) (ap (λ qs. r ∷ qs) (all_pass t h rs))

-- if no process group is selected, all are candidates
pub all_candidates : (me : Process) (target : Target) (rs : List Process) → ((p : ℕ) × (target ≡ whom.Process p)) ⊎ ((target ≡ whom.All) ⊎ (target ≡ whom.Nobody)) → filter (is_candidate me target) rs ≡ rs
all_candidates me target rs (inl e) = rw e.1 (all_pass (λ r. true) (λ r. refl) rs)
all_candidates me target rs (inr (inl e)) = rw e (all_pass (λ r. true) (λ r. refl) rs)
all_candidates me target rs (inr (inr e)) = rw e (all_pass (λ r. true) (λ r. refl) rs)

-- whether a process is a candidate stays as it is
candidate_blank : (me : Process) (target : Target) (r : Process) → is_candidate me target (blank r) ≡ is_candidate me target r
candidate_blank me (whom.Process p) r = refl
candidate_blank me target r = refl

-- if two lists agree on it, they have the same first, and as many are left
same_first : (xs ys : List Process) → map blank xs ≡ map blank ys → first_pid xs ≡ first_pid ys
same_first xs ys e = same_by first_pid first xs ys e
  where
    first : (rs : List Process) → first_pid (map blank rs) ≡ first_pid rs
    first [] = refl
    first (r ∷ rs) = refl

same_left : (o : Option ℕ) (xs ys : List Process) → map blank xs ≡ map blank ys → length (left_of o xs) ≡ length (left_of o ys)
same_left None xs ys e = refl
same_left (Some n) xs ys e = sym (length-map (left_of (Some n) xs) blank) ∙ ap length (same_filter (λ r. nat_le n r.pid) (λ r. refl) xs ys e) ∙ length-map (left_of (Some n) ys) blank

-- one less is left after p, which was signalled
pub candidates_less : (me : Process) (target : Target) (p : ℕ) (rs mid : List Process) (next after : Option ℕ) → AtOne (is_candidate me target) p rs → next ≡ Some p → map blank mid ≡ map blank rs → after ≡ first_pid (above p (filter (is_candidate me target) mid))
    → length (left_of next (filter (is_candidate me target) rs)) ≡ 1 + length (left_of after (filter (is_candidate me target) mid))
candidates_less me target p rs mid next after at comes e is = grind (arith, at, comes, e, is, candidate_blank, one_less, same_above, same_filter, same_first, same_left)

-- ---- several, part by part

-- those of two parts that may be signalled
permitted_append : (me : Process) (s : Option ℕ) (xs ys : List Process) → pids (permitted me s (xs ++ ys)) ≡ pids (permitted me s xs) ++ pids (permitted me s ys)
unfolding permitted
permitted_append me s xs ys = ap pids (filter-append (may me s) xs ys) ∙ map-append (λ r. r.pid) (filter (may me s) xs) (filter (may me s) ys)

-- brackets don't count
pub joined_twice : (a b c : Sending) → joined (joined a b) c ≡ joined a (joined b c)
joined_twice found.NobodyPermitted found.NobodyPermitted found.Permitted = refl
joined_twice found.NobodyPermitted found.Permitted found.Permitted = refl
joined_twice found.NobodyPermitted found.QueueFull found.Permitted = refl
joined_twice found.Permitted found.NobodyPermitted found.Permitted = refl
joined_twice found.Permitted found.Permitted found.Permitted = refl
joined_twice found.Permitted found.QueueFull found.Permitted = refl
joined_twice found.QueueFull found.NobodyPermitted found.Permitted = refl
joined_twice found.QueueFull found.Permitted found.Permitted = refl
joined_twice found.QueueFull found.QueueFull found.Permitted = refl
joined_twice a b c = refl

-- nor does NobodyFound
pub joined_none : (a : Sending) → joined a found.NobodyFound ≡ a
joined_none found.Permitted = refl
joined_none a = refl

-- it is the greater one
joined_max : (a b : Sending) → ord_max sendings.cmp-value.it a b ≡ joined a b
joined_max found.NobodyFound found.Permitted = refl
joined_max found.NobodyPermitted found.Permitted = refl
joined_max found.Permitted found.Permitted = refl
joined_max found.QueueFull found.Permitted = refl
joined_max found.NoMemory found.Permitted = refl
joined_max a b = refl

-- among some and then others
joined_permitted : (xs ys : List Process) → joined (sending_permitted xs) (sending_permitted ys) ≡ sending_permitted (xs ++ ys)
joined_permitted [] [] = refl
joined_permitted (x ∷ xs) [] = refl
joined_permitted xs ys = refl

-- which of all of them a signal finds
pub sending_append : (me : Process) (s : Option ℕ) (xs ys : List Process) → joined (sending_found me s xs) (sending_found me s ys) ≡ sending_found me s (xs ++ ys)
unfolding permitted
sending_append me s [] ys = refl
sending_append me s (x ∷ xs) [] = joined_none _ ∙ ap (λ l. sending_permitted (filter (may me s) (x ∷ l))) (sym (append-nil xs))
sending_append me s (x ∷ xs) (y ∷ ys) = grind (arith, filter-append, joined_permitted)

-- ---- the walk

-- the processes that a signal has found so far, the table now, and the recheck list
pub record Sent : Type 0 where
  pub sending : Sending
  pub processes : List Process
  pub to_recheck : List ℕ

-- the same once the signal found some more, and was generated for those with the IDs ps
abbrev pub given : Process → Option PendingSignal → List ℕ → Sending → List ℕ → Sent → Sent
given me None order more ps k = record k { sending = joined k.sending more }
given me (Some m) order more ps k = record {
  sending = joined k.sending more;
  processes = signalled_all m ps k.processes;
  to_recheck = rechecking_all m ps k.processes order k.to_recheck;
}

-- once it was sent to the processes qs
abbrev pub sent_to : Process → Option PendingSignal → List ℕ → List Process → Sent → Sent
sent_to me s order qs k = given me s order (sending_found me (number_of s) qs) (pids (permitted me (number_of s) qs)) k

sent_is : (me : Process) (s : Option PendingSignal) (order : List ℕ) (qs : List Process) (k : Sent)
    → record { sending = joined k.sending (sending_found me (number_of s) qs); processes = sent_among me s qs k.processes; to_recheck = rechecking_signalled me s qs k.processes order k.to_recheck } ≡ sent_to me s order qs k
unfolding sent_among rechecking_signalled
sent_is me None order qs k = refl
sent_is me (Some m) order qs k = refl

-- to send it to one more
pub sent_on : (me : Process) (s : Option PendingSignal) (order : List ℕ) (qs : List Process) (k : Sent) (more now : Sending) (rs : List Process) (ns : List ℕ) → more ≡ sending_found me (number_of s) qs → now ≡ ord_max sendings.cmp-value.it k.sending more → rs ≡ sent_among me s qs k.processes
    → ns ≡ rechecking_signalled me s qs k.processes order k.to_recheck → record { sending = now; processes = rs; to_recheck = ns } ≡ sent_to me s order qs k
sent_on me s order qs k more now rs ns found most rest asked = rw (most ∙ joined_max k.sending more, found, rest, asked) (sent_is me s order qs k)

-- it stays if the processes qs agree with others on what a sender asks
sent_blank : (me : Process) (s : Option PendingSignal) (order : List ℕ) (k : Sent) (qs : List Process) → sent_to me s order (map blank qs) k ≡ sent_to me s order qs k
unfolding permitted
sent_blank me s order k qs =
    ap (λ more. given me s order more (pids (permitted me (number_of s) (map blank qs))) k) (found_blank qs)
    ∙ ap (λ ps. given me s order (sending_found me (number_of s) qs) ps k) (ap pids (filter_map (may me (number_of s)) blank (λ r. refl) qs) ∙ map-map (λ (r : Process). r.pid) blank (filter (may me (number_of s)) qs))
  where
    some_blank : (qs : List Process) → sending_permitted (map blank qs) ≡ sending_permitted qs
    some_blank [] = refl
    some_blank (q ∷ qs) = refl

    found_blank : (qs : List Process) → sending_found me (number_of s) (map blank qs) ≡ sending_found me (number_of s) qs
    found_blank [] = refl
    found_blank (q ∷ qs) = ap sending_permitted (filter_map (may me (number_of s)) blank (λ r. refl) (q ∷ qs)) ∙ some_blank (filter (may me (number_of s)) (q ∷ qs))

-- and the table agrees with what it was
pub blank_sent : (me : Process) (s : Option PendingSignal) (order : List ℕ) (qs : List Process) (k l : Sent) → l ≡ sent_to me s order qs k → map blank l.processes ≡ map blank k.processes
blank_sent me None order qs k l e = ap (λ (l : Sent). map blank l.processes) e
blank_sent me (Some m) order qs k l e = ap (λ (l : Sent). map blank l.processes) e ∙ blank_signalled_all m _ k.processes

-- some get it and then others
given_append : (me : Process) (s : Option PendingSignal) (order : List ℕ) (a b : Sending) (ps qs : List ℕ) (k : Sent) → given me s order (joined a b) (ps ++ qs) k ≡ given me s order b qs (given me s order a ps k)
unfolding signalled_all rechecking_all
given_append me None order a b ps qs k = ap (λ x. record k { sending = x }) (sym (joined_twice k.sending a b))
given_append me (Some m) order a b [] qs k = ap (λ x. record (given me (Some m) order b qs k) { sending = x }) (sym (joined_twice k.sending a b))
given_append me (Some m) order a b (p ∷ ps) qs k =
    given_append me (Some m) order a b ps qs (record {
      sending = k.sending;
      processes = generated_for m (lookup p k.processes) k.processes;
      to_recheck = rechecking_generated m (lookup p k.processes) k.processes order k.to_recheck;
    })

-- to send it to some and then to others is to send it to all of them
sent_append : (me : Process) (s : Option PendingSignal) (order : List ℕ) (xs ys : List Process) (k : Sent) → sent_to me s order (xs ++ ys) k ≡ sent_to me s order ys (sent_to me s order xs k)
sent_append me s order xs ys k =
    ap (λ more. given me s order more (pids (permitted me (number_of s) (xs ++ ys))) k) (sym (sending_append me (number_of s) xs ys))
    ∙ ap (λ ps. given me s order (joined (sending_found me (number_of s) xs) (sending_found me (number_of s) ys)) ps k) (permitted_append me (number_of s) xs ys)
    ∙ given_append me s order (sending_found me (number_of s) xs) (sending_found me (number_of s) ys) (pids (permitted me (number_of s) xs)) (pids (permitted me (number_of s) ys)) k

-- What is left to do once p was signalled gives what was left before. Now is l, and next comes after p.
pub sent_step : (me : Process) (target : Target) (s : Option PendingSignal) (order : List ℕ) (p : ℕ) (next : Option ℕ) (k l : Sent) → IsRising k.processes → IsRising l.processes → l ≡ sent_to me s order (targets me target (numbered p k.processes)) k → IsNext (is_target me target) p l.processes next
    → sent_to me s order (targets me target (left_of next l.processes)) l ≡ sent_to me s order (targets me target (left_of (Some p) k.processes)) k
unfolding targets
sent_step me target s order p next k l up up_now sent comes =
    let t = is_target me target in
    let same = same_above p l.processes k.processes (blank_sent me s order (filter t (numbered p k.processes)) k l sent) in
    same_by (λ qs. sent_to me s order qs l) (sent_blank me s order l) _ _ (ap (map blank) (rest_of_walk t p l.processes next up_now comes) ∙ same_filter t (meant_blank me target) _ _ same)
    ∙ ap (sent_to me s order (filter t (above p k.processes))) sent
    ∙ sym (sent_append me s order (filter t (numbered p k.processes)) (filter t (above p k.processes)) k)
    ∙ ap (λ qs. sent_to me s order qs k) (sym (walk_splits t p k.processes up))

-- at the end it was sent to all selected processes
pub sent_ends : (me : Process) (target : Target) (s : Option PendingSignal) (order : List ℕ) (next : Option ℕ) (k l : Sent) (qs : List Process) → next ≡ None → sent_to me s order (targets me target (left_of next k.processes)) k ≡ sent_to me s order qs l
    → k ≡ record { sending = joined l.sending (sending_found me (number_of s) qs); processes = sent_among me s qs l.processes; to_recheck = rechecking_signalled me s qs l.processes order l.to_recheck }
unfolding targets permitted signalled_all rechecking_all
sent_ends me target s order next k l qs none todo = sym (nobody s) ∙ ap (λ o. sent_to me s order (filter (is_target me target) (left_of o k.processes)) k) (sym none) ∙ todo ∙ sym (sent_is me s order qs l)
  where
    nobody : (s : Option PendingSignal) → sent_to me s order [] k ≡ k
    nobody None = ap (λ x. record k { sending = x }) (joined_none k.sending)
    nobody (Some m) = ap (λ x. record k { sending = x }) (joined_none k.sending)

-- ---- one number

-- an existing process that is selected is the target with its ID
pub target_one : (me : Process) (target : Target) (p : ℕ) (rs : List Process) → IsRising rs → (q : Process) → lookup p rs ≡ Some q → is_target me target q ≡ true → targets me target (numbered p rs) ≡ q ∷ []
unfolding targets
target_one me target p rs up q e t = rw (numbered_one p rs up q e, t) refl

-- an existing process that isn't selected is none
pub target_other : (me : Process) (target : Target) (p : ℕ) (rs : List Process) → IsRising rs → (q : Process) → lookup p rs ≡ Some q → is_target me target q ≡ false → targets me target (numbered p rs) ≡ []
unfolding targets
target_other me target p rs up q e t = rw (numbered_one p rs up q e, t) refl

-- if it doesn't exist, there is none
pub target_none : (me : Process) (target : Target) (p : ℕ) (rs : List Process) → lookup p rs ≡ None → targets me target (numbered p rs) ≡ []
unfolding targets
target_none me target p rs e = rw (numbered_none p rs e) refl

-- a test that was passed is passed again
filter_twice : (t : Process → Bool) (rs : List Process) → filter t (filter t rs) ≡ filter t rs
filter_twice t [] = refl
filter_twice t (x ∷ xs) = grind (arith, filter_twice t xs)

-- an ID that no process can have selects none
pub targets_nobody : (me : Process) (rs : List Process) → targets me whom.Nobody rs ≡ []
unfolding targets
targets_nobody me [] = refl
targets_nobody me (x ∷ xs) = targets_nobody me xs

-- a process is selected by its ID
pub targets_numbered : (me : Process) (p : ℕ) (rs : List Process) → targets me (whom.Process p) (numbered p rs) ≡ targets me (whom.Process p) rs
unfolding targets
targets_numbered me p rs = filter_twice (has_pid p) rs

-- no process is signalled if none is selected
pub sent_nobody : (me : Process) (s : Option PendingSignal) (rs : List Process) → sent_among me s [] rs ≡ rs
unfolding sent_among permitted signalled_all
sent_nobody me None rs = refl
sent_nobody me (Some m) rs = refl

-- nor rechecked
pub rechecked_nobody : (me : Process) (s : Option PendingSignal) (rs : List Process) (order ns : List ℕ) → rechecking_signalled me s [] rs order ns ≡ ns
unfolding rechecking_signalled permitted rechecking_all
rechecked_nobody me None rs order ns = refl
rechecked_nobody me (Some m) rs order ns = refl

-- nor one that may not be
pub not_sent : (me : Process) (s : Option PendingSignal) (q : Process) (rs : List Process) (order ns : List ℕ) → may me (number_of s) q ≡ false → (sent_among me s (q ∷ []) rs ≡ rs) × (rechecking_signalled me s (q ∷ []) rs order ns ≡ ns)
unfolding sent_among permitted signalled_all rechecking_signalled rechecking_all
not_sent me None q rs order ns e = (refl, refl)
not_sent me (Some m) q rs order ns e = rw e (refl, refl)
