-- What agreement says of the records, in words of lines.
use Rattle.std.proofs.Common.{◌≡◌, ◌≢◌, ℕ, Bool, true, false, is_none, ◌++◌, [], ◌∷◌, append_assoc, append-nil, ◌==◌, refl, ap, sym, ◌∙◌, subst, List, Option, Some, None}
use Rattle.std.specs.Option.{IsSomeAnd, option_map_or}
use Rattle.posix.specs.Common.{Line, line, Process, is_zombie, is_stopped, State, process}
use Rattle.posix.specs.declared.entry.Entry.{Entry}
use Rattle.posix.specs.declared.entry.Entry.TheVariants.{Ended, Halted}
use Rattle.posix.specs.declared.process.Life.TheVariants.{Zombie}
use Rattle.laws.specs.Lives.{Laws, last_line, within_life, halts_last, LifeSoFar, LastOf, EndOf, newest_life, is_living, parent_of, parent_in, parent_in_life, the_end, last_stop, has_mark}
use Rattle.laws.specs.Keeping.{Alive, Dead, Kept, NeverBorn, Lives, Died, Phase, Going, FirstEnded, Over, phase_of, phase_after, place_fault, made_by, heir_told, kept_of, kept_of_life, kept_since, alive_since, lives_now}
use Rattle.laws.specs.Agree.{NewsAgree, AgreeOn, Agree, LivesAndNews, phase_between}
use Rattle.posix.proofs.TableLemmas.{pid_looked}
use Rattle.posix.specs.declared.process.News.TheVariants as news
use Rattle.laws.proofs.LawfulLemmas.{everywhere_at}
use Rattle.laws.proofs.NextLineLemmas.{lives_kept, living_kept_as, dead_kept}
use Rattle.laws.proofs.KeptLemmas.{last_where_more}
use Rattle.laws.proofs.LineLaws.{kept_next, over_made, over_dead, lives_stays}
use Rattle.laws.proofs.TestLemmas.{living_kept, place_tested}

-- the parent that is kept of a life that hasn't ended is that of the newest life
parent_kept : (lines : List Line) (c : ℕ) (a : Alive) → kept_of lines c ≡ Lives a → parent_in lines c ≡ Some a.parent
unfolding kept_of parent_in
parent_kept lines c a e = of (newest_life lines c) e
  where
    stop : (parent : ℕ) (mark : Bool) (o : Option (LastOf Line)) → Lives (alive_since parent mark c o) ≡ Lives a → parent ≡ a.parent
    stop parent mark None e = cc
    stop parent mark (Some found) e = cc

    since : (parent : ℕ) (ls : List Line) (o : Option EndOf) → kept_since c parent ls o ≡ Lives a → parent ≡ a.parent
    since parent ls None e = stop parent (has_mark c ls) (last_stop c ls) e
    since parent ls (Some x) e = absurd (cc)

    of : (o : Option LifeSoFar) → kept_of_life lines c o ≡ Lives a → parent_in_life lines c o ≡ Some a.parent
    of None e = absurd (cc)
    of (Some x) e = ap Some (since (parent_of lines c) x.since (the_end c x.since) e)

-- who lives is in a life that hasn't ended, and has its parent
pub living_open : (lines : List Line) (k : ℕ) (s : State) → Agree lines k s → (p : ℕ) (r : Process) → process s p ≡ Some r → is_zombie r.life ≡ false → (is_living lines p ≡ true) × (parent_in lines p ≡ Some r.parent)
living_open lines k s h p r e lives =
    let agrees : AgreeOn (kept_of lines p) (Some r) = subst (AgreeOn (kept_of lines p)) e (h.records p) in
    let a = living_kept_as (kept_of lines p) r agrees lives in
    let alive = subst (λ m. AgreeOn m (Some r)) a.1 agrees in
    (sym (living_kept lines p) ∙ lives_kept (kept_of lines p) r agrees lives, parent_kept lines p a.0 a.1 ∙ ap Some (sym alive.parent))

-- and in each such life somebody lives
pub open_living : (lines : List Line) (k : ℕ) (s : State) → Agree lines k s → (p : ℕ) → is_living lines p ≡ true → IsSomeAnd (process s p) (λ r. is_zombie r.life ≡ false)
open_living lines k s h p e = by (kept_of lines p) (process s p) (living_kept lines p ∙ e) (h.records p)
  where
    by : (m : Kept) (o : Option Process) → lives_now m ≡ true → AgreeOn m o → IsSomeAnd o (λ r. is_zombie r.life ≡ false)
    by NeverBorn o l a = absurd (cc)
    by (Lives x) None l a = absurd (a)
    by (Lives x) (Some r) l a = a.living
    by (Died d) o l a = absurd (cc)

-- a zombie is an ended life whose end isn't reported, with its status
pub zombie_ended : (lines : List Line) (k : ℕ) (s : State) → Agree lines k s → (p w : ℕ) (r : Process) → process s p ≡ Some r → r.life ≡ Zombie w
    → kept_of lines p ≡ Died (record { parent = r.parent; status = w; reported = false })
zombie_ended lines k s h p w r e life =
    let agrees : AgreeOn (kept_of lines p) (Some r) = subst (AgreeOn (kept_of lines p)) e (h.records p) in
    let d = dead_kept (kept_of lines p) r agrees (ap is_zombie life) in
    let dead = subst (λ m. AgreeOn m (Some r)) d.1 agrees in
    let status : d.0.status ≡ w = let both = sym dead.life ∙ life in cc in
    d.1 ∙ same d.0 (sym dead.parent) status dead.reported
  where
    same : (d : Dead) → d.parent ≡ r.parent → d.status ≡ w → d.reported ≡ false → Died d ≡ Died (record { parent = r.parent; status = w; reported = false })
    same d a b c = rw (sym a, sym b, sym c) refl

-- ---- process 1, and news

-- process 1 is in its life until it ends, right before the halt
abbrev FirstLives : Phase → Bool → Type 0
FirstLives Going lives = lives ≡ true
FirstLives FirstEnded lives = lives ≡ false
FirstLives Over lives = lives ≡ false

-- one line more
first_next : (heir : ℕ) (before : List Line) (phase : Phase) (e : Entry) → is_none (place_fault (kept_of before) phase e) ≡ true → FirstLives phase (lives_now (kept_of before 1)) → FirstLives (phase_after e) (lives_now (made_by heir e 1 (kept_of before 1)))
unfolding made_by
first_next heir before Over e place h = absurd (cc)
first_next heir before FirstEnded Halted place h = h
first_next heir before FirstEnded e place h = absurd (cc)
first_next heir before Going Halted place h = absurd (cc)
first_next heir before Going (Ended p w) place h = of (p == 1) refl
  where
    of : (b : Bool) → (p == 1) ≡ b → FirstLives (phase_after (Ended p w)) (lives_now (made_by heir (Ended p w) 1 (kept_of before 1)))
    of true t =
        let phase : phase_after (Ended p w) ≡ FirstEnded = rw t refl in
        subst (λ phase. FirstLives phase (lives_now (made_by heir (Ended p w) 1 (kept_of before 1)))) (sym phase) (over_dead (made_by heir (Ended p w) 1 (kept_of before 1)) (over_made heir 1 w (Ended p w) (kept_of before 1) (rw t refl) h))
    of false t =
        let phase : phase_after (Ended p w) ≡ Going = rw t refl in
        subst (λ phase. FirstLives phase (lives_now (made_by heir (Ended p w) 1 (kept_of before 1)))) (sym phase) (lives_stays heir 1 (line 0 (Ended p w)) (kept_of before 1) (rw t refl) h)
first_next heir before Going e place h = lives_stays heir 1 (line 0 e) (kept_of before 1) refl h

-- several more
first_after : (before rest : List Line) → Laws (before ++ rest) → FirstLives (phase_of (last_line before)) (lives_now (kept_of before 1)) → FirstLives (phase_of (last_line (before ++ rest))) (lives_now (kept_of (before ++ rest) 1))
first_after before [] h first = subst (λ ls. FirstLives (phase_of (last_line ls)) (lives_now (kept_of ls 1))) (sym (append-nil before)) first
first_after before (l ∷ ls) h first =
    let place = place_tested before (last_line before) l.entry ∙ rw (everywhere_at within_life before l ls h.lives, everywhere_at halts_last before l ls h.halts) refl in
    let next = first_next (heir_told (kept_of before) l.entry) before (phase_of (last_line before)) l.entry place first in
    let phase : phase_of (last_line (before ++ l ∷ [])) ≡ phase_after l.entry = ap phase_of (last_where_more (λ x. true) before l) in
    let one = subst (λ phase. FirstLives phase (lives_now (kept_of (before ++ l ∷ []) 1))) (sym phase) (subst (λ k. FirstLives (phase_after l.entry) (lives_now k)) (kept_next before l 1) next) in
    subst (λ ls. FirstLives (phase_of (last_line ls)) (lives_now (kept_of ls 1))) (append_assoc before (l ∷ []) ls) (first_after (before ++ l ∷ []) ls (subst Laws (sym (append_assoc before (l ∷ []) ls)) h) one)

-- What else holds of a state whose lines these are.
pub agree_lives : (lines : List Line) (k : ℕ) (s : State) → Agree lines k s → LivesAndNews s
unfolding kept_of newest_life
agree_lives lines k s h = record {
  first = λ r e. of s.halted (process s 1) e (kept_of lines 1) (h.records 1) (subst (λ phase. FirstLives phase (lives_now (kept_of lines 1))) h.phase (first_after [] lines h.laws refl));
  zombies = λ p r other e dead. zombie r (λ first. other (sym (pid p r e) ∙ first)) (kept_of lines p) (subst (AgreeOn (kept_of lines p)) e (h.records p)) dead;
  stopped = λ p r e stops. continued r (kept_of lines p) (subst (AgreeOn (kept_of lines p)) e (h.records p)) stops;
}
  where
    of : (halted : Bool) {r : Process} (o : Option Process) → o ≡ Some r → (m : Kept) → AgreeOn m o → FirstLives (phase_between halted) (lives_now m) → is_zombie r.life ≡ halted
    of true (Some x) e (Lives a) h first = absurd (cc)
    of false (Some x) e (Lives a) h first = ap (λ (o : Option Process). option_map_or (λ r. is_zombie r.life) o false) (sym e) ∙ h.living
    of true (Some x) e (Died d) h first = ap (λ (o : Option Process). option_map_or (λ r. is_zombie r.life) o true) (sym e) ∙ ap is_zombie h.life
    of false (Some x) e (Died d) h first = absurd (cc)
    of halted (Some x) e NeverBorn h first = absurd (h)
    of halted None e m h first = absurd (cc)

    pid : (p : ℕ) (r : Process) → process s p ≡ Some r → r.pid ≡ p
    pid p r e = pid_looked p s.processes r e

    zombie : (r : Process) → r.pid ≢ 1 → (m : Kept) → AgreeOn m (Some r) → is_zombie r.life ≡ true → r.news ≡ news.Nothing
    zombie r other NeverBorn h dead = absurd (h)
    zombie r other (Lives a) h dead = let no = sym dead ∙ h.living in absurd (cc)
    zombie r other (Died d) h dead = h.news other

    continued : (r : Process) (m : Kept) → AgreeOn m (Some r) → is_stopped r.life ≡ true → r.news ≢ news.Continued
    continued r NeverBorn h stops is = absurd (h)
    continued r (Lives a) h stops is = let n : (a.may_continue ≡ true) × (is_stopped r.life ≡ false) = subst (NewsAgree a (is_stopped r.life)) is h.news in let no = sym stops ∙ n.1 in cc
    continued r (Died d) h stops is = let no : false ≡ true = sym (ap is_stopped h.life) ∙ stops in cc
