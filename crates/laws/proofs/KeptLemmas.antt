-- What the lines say of each number changes, line by line, as what is kept of it does.
use mathlib.Core.Path.{fun_ext}
use Rattle.std.proofs.Common.{◌≡◌, ℕ, Bool, true, false, cond, not, ◌&&◌, ◌||◌, if◌then◌else◌, ◌==◌, List, [], ◌∷◌, ◌++◌, Option, Some, None, option_map, is_some, unwrap_or, append_assoc, append-nil, refl, ap, sym, ◌∙◌, arith}
use Rattle.std.specs.List.{list_any}
use Rattle.std.proofs.Math.Bool.{and-true, or-false}
use Rattle.std.proofs.lemmas.Bool.{cases_Bool}
use Rattle.std.proofs.lemmas.List.Folds.{list_any-append}
use Rattle.posix.specs.Common.{Line, process_of, is_end_word, is_continued_word, Forebear, heir_among}
use Rattle.posix.specs.declared.entry.Entry.{Entry}
use Rattle.posix.specs.declared.waits.WaitCall.{WaitCall}
use Rattle.posix.specs.declared.entry.Entry.TheVariants.{Called, Reported, Marked, Stopped, Ended}
use Rattle.laws.specs.Lives.{LastOf, last_where, newest_life, life_after, LifeSoFar, the_end, EndOf, or_later, parent_of, parents_from, parent_after, forebear_in, mark_in, mark_of, has_mark, last_mark, begins, is_just, born_by, last_stop, reports, reports_in, stop_in, end_in, is_change_word}
use Rattle.laws.specs.Keeping.{Alive, Dead, Kept, NeverBorn, Lives, Died, kept_of, kept_of_life, kept_since, alive_since, kept_after, made_by, heir_told, heir_of, forebear_kept, newborn, after_report, after_stop, after_mark, ended_with, given_on, moved_from}

-- the last element that passes, of a list with one more
abbrev pub longer : {A : Type 0} → A → LastOf A → LastOf A
longer x f = record f { after = f.after ++ x ∷ [] }

pub last_where_more : {A : Type 0} (test : A → Bool) (xs : List A) (x : A)
    → last_where test (xs ++ x ∷ []) ≡ cond (test x) (Some (record { it = x; after = [] })) (option_map (longer x) (last_where test xs))
last_where_more test [] x = grind (arith, cases_Bool)
last_where_more test (y ∷ ys) x = grind (arith, last_where_more test ys x)

-- ---- what is kept changes number by number

-- a number that isn't born stays so, but by a birth
pub unborn_stays : (heir : ℕ) (entry : Entry) (c : ℕ) → is_just c (born_by entry) ≡ false → made_by heir entry c NeverBorn ≡ NeverBorn
unfolding made_by
unborn_stays heir (Called p call z) c h = rw h refl
unborn_stays heir (Reported p call d w) c h = grind (arith, cases_Bool)
unborn_stays heir (Marked p mark) c h = grind (arith, cases_Bool)
unborn_stays heir (Stopped p s) c h = grind (arith, cases_Bool)
unborn_stays heir (Ended p w) c h = grind (arith, cases_Bool)
unborn_stays heir entry c h = refl

-- whether one passes of a list with one more
any_more : {A : Type 0} (test : A → Bool) (xs : List A) (x : A) → list_any test (xs ++ x ∷ []) ≡ (list_any test xs || test x)
any_more test xs x = list_any-append test xs (x ∷ []) ∙ ap (λ b. list_any test xs || b) (or-false (test x))

-- ---- the newest life

abbrev lived : Line → LifeSoFar → LifeSoFar
lived l x = record x { since = x.since ++ l ∷ [] }

life_if : (lines : List Line) (c : ℕ) (l : Line) (t : Bool) (o : Option (LastOf Line))
    → life_after (lines ++ l ∷ []) c (cond t (Some (record { it = l; after = [] })) (option_map (longer l) o))
    ≡ cond t (Some (record { since = [] })) (option_map (lived l) (life_after lines c o))
life_if lines c l true o = refl
life_if lines c l false None = grind (arith, cases_Bool)
life_if lines c l false (Some b) = refl

life_more : (lines : List Line) (c : ℕ) (l : Line)
    → newest_life (lines ++ l ∷ []) c ≡ cond (begins c l) (Some (record { since = [] })) (option_map (lived l) (newest_life lines c))
unfolding newest_life
life_more lines c l = ap (life_after (lines ++ l ∷ []) c) (last_where_more (begins c) lines l) ∙ life_if lines c l (begins c l) (last_where (begins c) lines)

-- ---- its end

abbrev end_then : Option EndOf → Line → Option ℕ → Option EndOf
end_then (Some e) l w = Some (record e { after = e.after ++ l ∷ [] })
end_then None l w = or_later w [] None

end_later : (w v : Option ℕ) (rest : List Line) (l : Line) (o : Option EndOf) → or_later w (rest ++ l ∷ []) (end_then o l v) ≡ end_then (or_later w rest o) l v
end_later None v rest l o = refl
end_later (Some s) v rest l o = refl

end_more : (c : ℕ) (xs : List Line) (l : Line) → the_end c (xs ++ l ∷ []) ≡ end_then (the_end c xs) l (end_in c l.entry)
end_more c [] l = refl
end_more c (x ∷ xs) l = ap (or_later (end_in c x.entry) (xs ++ l ∷ [])) (end_more c xs l) ∙ end_later (end_in c x.entry) (end_in c l.entry) xs l (the_end c xs)

-- ---- its mark

-- what a line makes of the mark
abbrev pub told_mark : ℕ → Entry → Bool → Bool
told_mark c entry mark = unwrap_or (mark_in c entry) mark

mark_if : (c : ℕ) (l : Line) (m : Option Bool) → mark_in c l.entry ≡ m → (o : Option (LastOf Line))
    → mark_of c (cond (is_some m) (Some (record { it = l; after = [] })) (option_map (longer l) o)) ≡ unwrap_or m (mark_of c o)
mark_if c l (Some mark) is o = ap (λ (m : Option Bool). unwrap_or m false) is
mark_if c l None is None = refl
mark_if c l None is (Some x) = refl

mark_more : (c : ℕ) (since : List Line) (l : Line) → has_mark c (since ++ l ∷ []) ≡ told_mark c l.entry (has_mark c since)
mark_more c since l = ap (mark_of c) (last_where_more (λ x. is_some (mark_in c x.entry)) since l) ∙ mark_if c l (mark_in c l.entry) refl (last_mark c since)

-- ---- its parent

-- one line more changes the parents as it says
parents_more : (before : List Line) (parents : ℕ → ℕ) (ls : List Line) (l : Line) (c : ℕ)
    → parents_from before parents (ls ++ l ∷ []) c ≡ parent_after (before ++ ls) (λ q. parents_from before parents ls q) l.entry c
unfolding parents_from
parents_more before parents [] l c = ap (λ ls. parent_after ls parents l.entry c) (sym (append-nil before))
parents_more before parents (x ∷ ls) l c =
    let next = parent_after before parents x.entry in
    parents_more (before ++ x ∷ []) next ls l c ∙ ap (λ rest. parent_after rest (λ q. parents_from (before ++ x ∷ []) next ls q) l.entry c) (append_assoc before (x ∷ []) ls)

-- what the lines say of c as an ancestor is what is kept of it
forebear_said : (lines : List Line) (c : ℕ) → forebear_in c (parent_of lines c) (newest_life lines c) ≡ forebear_kept (kept_of lines c)
unfolding kept_of
forebear_said lines c = of (newest_life lines c)
  where
    stop : (parent : ℕ) (mark : Bool) (o : Option (LastOf Line)) → Some (record { is_marked = mark; parent = parent }) ≡ forebear_kept (Lives (alive_since parent mark c o))
    stop parent mark None = refl
    stop parent mark (Some found) = refl

    since : (parent : ℕ) (ls : List Line) (o : Option EndOf) → cond (is_some o) None (Some (record { is_marked = has_mark c ls; parent = parent })) ≡ forebear_kept (kept_since c parent ls o)
    since parent ls None = stop parent (has_mark c ls) (last_stop c ls)
    since parent ls (Some e) = refl

    of : (o : Option LifeSoFar) → forebear_in c (parent_of lines c) o ≡ forebear_kept (kept_of_life lines c o)
    of None = refl
    of (Some x) = since (parent_of lines c) x.since (the_end c x.since)

-- so the heir is the same
heir_said : (lines : List Line) (p : ℕ) → heir_among (λ q. forebear_in q (parent_of lines q) (newest_life lines q)) p ≡ heir_of (kept_of lines) p
heir_said lines p = ap (λ (living : ℕ → Option Forebear). heir_among living p) (fun_ext (forebear_said lines))

abbrev pub told_parent : ℕ → Entry → ℕ → ℕ
told_parent heir (Ended p w) parent = moved_from p heir parent
told_parent heir _ parent = parent

parent_then : (lines : List Line) (entry : Entry) (c : ℕ) → is_just c (born_by entry) ≡ false
    → parent_after lines (parent_of lines) entry c ≡ told_parent (heir_told (kept_of lines) entry) entry (parent_of lines c)
parent_then lines (Called p call z) c h = rw h refl
parent_then lines (Ended p w) c h = ap (λ heir. moved_from p heir (parent_of lines c)) (heir_said lines p)
parent_then lines entry c h = refl

parent_more : (lines : List Line) (l : Line) (c : ℕ) → is_just c (born_by l.entry) ≡ false
    → parent_of (lines ++ l ∷ []) c ≡ told_parent (heir_told (kept_of lines) l.entry) l.entry (parent_of lines c)
parent_more lines l c h = parents_more [] (λ q. 0) lines l c ∙ parent_then lines l.entry c h

abbrev pub or_zero : Option ℕ → ℕ
or_zero None = 0
or_zero (Some n) = n

-- that of one who is born is who forked it
parent_born : (lines : List Line) (entry : Entry) (c : ℕ) → is_just c (born_by entry) ≡ true → parent_after lines (parent_of lines) entry c ≡ or_zero (process_of entry)
parent_born lines (Called p call z) c h = rw h refl
parent_born lines entry c h = cc

-- ---- its last stop

abbrev pub told_alive : ℕ → Bool → Entry → ℕ → Alive → Alive
told_alive parent mark entry c a =
    if is_some (stop_in c entry) then record { parent = parent; is_marked = mark; has_stopped = true; stop = stop_in c entry; may_continue = true }
    else record { parent = parent; is_marked = mark; has_stopped = a.has_stopped; stop = if reports_in c is_change_word entry then None else a.stop; may_continue = a.may_continue && not (reports_in c is_continued_word entry) }

abbrev nothing : Option ℕ
nothing = None

no_stop : (b : Bool) → nothing ≡ (if b then None else nothing)
no_stop b = grind (arith, cases_Bool)

either : (a b : Bool) (o : Option ℕ) → (if a || b then None else o) ≡ (if b then None else if a then None else o)
either a b o = grind (arith, cases_Bool)

neither : (a b : Bool) → not (a || b) ≡ (not a && not b)
neither a b = grind (arith, cases_Bool)

alive_if : (old parent c : ℕ) (was mark : Bool) (l : Line) (t : Bool) (o : Option (LastOf Line))
    → alive_since parent mark c (cond t (Some (record { it = l; after = [] })) (option_map (longer l) o))
    ≡ (let a = alive_since old was c o in
    if t then record { parent = parent; is_marked = mark; has_stopped = true; stop = stop_in c l.entry; may_continue = true }
    else record { parent = parent; is_marked = mark; has_stopped = a.has_stopped; stop = if reports_in c is_change_word l.entry then None else a.stop; may_continue = a.may_continue && not (reports_in c is_continued_word l.entry) })
alive_if old parent c was mark l true o = refl
alive_if old parent c was mark l false None =
    ap (λ (s : Option ℕ). let a : Alive = record { parent = parent; is_marked = mark; has_stopped = false; stop = s; may_continue = false } in a) (no_stop (reports_in c is_change_word l.entry))
alive_if old parent c was mark l false (Some stop) =
    let both : ℕ → Bool = λ v. is_change_word v in
    let alive : Option ℕ → Bool → Alive = λ s m. record { parent = parent; is_marked = mark; has_stopped = true; stop = s; may_continue = m } in
    rw (any_more (reports c both) stop.after l, any_more (reports c is_continued_word) stop.after l)
    (ap (λ (s : Option ℕ). alive s (not (list_any (reports c is_continued_word) stop.after || reports c is_continued_word l))) (either (list_any (reports c both) stop.after) (reports c both l) (stop_in c stop.it.entry))
    ∙ ap (alive (if reports c both l then None else if list_any (reports c both) stop.after then None else stop_in c stop.it.entry)) (neither (list_any (reports c is_continued_word) stop.after) (reports c is_continued_word l)))

alive_more : (old parent c : ℕ) (was mark : Bool) (since : List Line) (l : Line) → alive_since parent mark c (last_stop c (since ++ l ∷ [])) ≡ told_alive parent mark l.entry c (alive_since old was c (last_stop c since))
alive_more old parent c was mark since l =
    ap (alive_since parent mark c) (last_where_more (λ x. is_some (stop_in c x.entry)) since l) ∙ alive_if old parent c was mark l (is_some (stop_in c l.entry)) (last_stop c since)

-- ---- together

-- an end makes of what is kept so far an ended one
abbrev pub ended_as : Option ℕ → ℕ → Alive → Kept
ended_as None parent a = Lives a
ended_as (Some w) parent a = Died (record { parent = parent; status = w; reported = false })

abbrev pub told_kept_by : Option ℕ → Entry → ℕ → ℕ → Kept → Kept
told_kept_by w entry c parent NeverBorn = NeverBorn
told_kept_by w entry c parent (Lives a) = ended_as w parent (told_alive parent (told_mark c entry a.is_marked) entry c a)
told_kept_by w entry c parent (Died d) = Died (record { parent = parent; status = d.status; reported = d.reported || reports_in c is_end_word entry })

-- the parent of what is kept
abbrev pub parent_in : Kept → ℕ
parent_in NeverBorn = 0
parent_in (Lives a) = a.parent
parent_in (Died d) = d.parent

alive_same : (parent : ℕ) (a : Alive) → Lives (record { parent = parent; is_marked = a.is_marked; has_stopped = a.has_stopped; stop = a.stop; may_continue = a.may_continue && true }) ≡ Lives (record a { parent = parent })
alive_same parent a = ap (λ (b : Bool). Lives (record { parent = parent; is_marked = a.is_marked; has_stopped = a.has_stopped; stop = a.stop; may_continue = b })) (and-true a.may_continue)

dead_same : (parent : ℕ) (d : Dead) → Died (record { parent = parent; status = d.status; reported = d.reported || false }) ≡ Died (record d { parent = parent })
dead_same parent d = ap (λ (b : Bool). Died (record { parent = parent; status = d.status; reported = b })) (or-false d.reported)

-- a line that is no stop, end, mark or report of c
plain_told : (entry : Entry) (c : ℕ) (k : Kept) → mark_in c entry ≡ None → stop_in c entry ≡ None → reports_in c is_change_word entry ≡ false
    → reports_in c is_continued_word entry ≡ false → reports_in c is_end_word entry ≡ false → told_kept_by None entry c (parent_in k) k ≡ k
plain_told entry c NeverBorn m s b r e = refl
plain_told entry c (Lives a) m s b r e = rw (m, s, b, r) (alive_same a.parent a)
plain_told entry c (Died d) m s b r e = rw e (dead_same d.parent d)

told_reported : (p : ℕ) (call : WaitCall) (d w c : ℕ) (t : Bool) (k : Kept) → (d == c) ≡ t → told_kept_by None (Reported p call d w) c (parent_in k) k ≡ (if t then after_report w k else k)
told_reported p call d w c t NeverBorn h = grind (arith, cases_Bool)
told_reported p call d w c true k h = rw h refl
told_reported p call d w c false (Lives a) h = rw h (alive_same a.parent a)
told_reported p call d w c false (Died x) h = rw h (dead_same x.parent x)

told_marked : (p c : ℕ) (mark t : Bool) (k : Kept) → (p == c) ≡ t → told_kept_by None (Marked p mark) c (parent_in k) k ≡ (if t then after_mark mark k else k)
told_marked p c mark t NeverBorn h = grind (arith, cases_Bool)
told_marked p c mark true (Lives a) h = rw h (alive_same a.parent (record a { is_marked = mark }))
told_marked p c mark false (Lives a) h = rw h (alive_same a.parent a)
told_marked p c mark true (Died x) h = dead_same x.parent x
told_marked p c mark false (Died x) h = dead_same x.parent x

told_stopped : (p s c : ℕ) (t : Bool) (k : Kept) → (p == c) ≡ t → told_kept_by None (Stopped p s) c (parent_in k) k ≡ (if t then after_stop s k else k)
told_stopped p s c t NeverBorn h = grind (arith, cases_Bool)
told_stopped p s c true (Lives a) h = rw h refl
told_stopped p s c false (Lives a) h = rw h (alive_same a.parent a)
told_stopped p s c true (Died x) h = dead_same x.parent x
told_stopped p s c false (Died x) h = dead_same x.parent x

told_ended : (heir p w c : ℕ) (t : Bool) (k : Kept) → told_kept_by (if t then Some w else None) (Ended p w) c (moved_from p heir (parent_in k)) k ≡ (if t then ended_with w (given_on p heir k) else given_on p heir k)
told_ended heir p w c t NeverBorn = grind (arith, cases_Bool)
told_ended heir p w c true (Lives a) = refl
told_ended heir p w c false (Lives a) = alive_same (moved_from p heir a.parent) a
told_ended heir p w c true (Died x) = dead_same (moved_from p heir x.parent) x
told_ended heir p w c false (Died x) = dead_same (moved_from p heir x.parent) x

pub told_is_kept : (heir : ℕ) (entry : Entry) (c : ℕ) (k : Kept) → is_just c (born_by entry) ≡ false → told_kept_by (end_in c entry) entry c (told_parent heir entry (parent_in k)) k ≡ made_by heir entry c k
unfolding made_by
told_is_kept heir (Called p call z) c k h = rw h (plain_told (Called p call z) c k refl refl refl refl refl)
told_is_kept heir (Reported p call d w) c k h = told_reported p call d w c (d == c) k refl
told_is_kept heir (Marked p mark) c k h = told_marked p c mark (p == c) k refl
told_is_kept heir (Stopped p s) c k h = told_stopped p s c (p == c) k refl
told_is_kept heir (Ended p w) c k h = told_ended heir p w c (p == c) k
told_is_kept heir entry c k h = plain_told entry c k refl refl refl refl refl

mark_of_stop : (c parent : ℕ) (mark : Bool) (o : Option (LastOf Line)) → (alive_since parent mark c o).is_marked ≡ mark
mark_of_stop c parent mark None = refl
mark_of_stop c parent mark (Some stop) = refl

since_if : (c old parent : ℕ) (since : List Line) (l : Line) (o : Option EndOf) (w : Option ℕ)
    → kept_since c parent (since ++ l ∷ []) (end_then o l w) ≡ told_kept_by w l.entry c parent (kept_since c old since o)
since_if c old parent since l None None =
    let alive = alive_since old (has_mark c since) c (last_stop c since) in
    ap Lives (alive_more old parent c (has_mark c since) (has_mark c (since ++ l ∷ [])) since l)
    ∙ ap (λ (mark : Bool). Lives (told_alive parent mark l.entry c alive)) (mark_more c since l ∙ ap (told_mark c l.entry) (sym (mark_of_stop c old (has_mark c since) (last_stop c since))))
since_if c old parent since l None (Some w) = refl
since_if c old parent since l (Some e) w =
    let died : Bool → Kept = λ b. Died (record { parent = parent; status = e.status; reported = b }) in
    ap died (any_more (reports c is_end_word) e.after l)

since_more : (c old parent : ℕ) (since : List Line) (l : Line)
    → kept_since c parent (since ++ l ∷ []) (the_end c (since ++ l ∷ [])) ≡ told_kept_by (end_in c l.entry) l.entry c parent (kept_since c old since (the_end c since))
since_more c old parent since l = ap (kept_since c parent (since ++ l ∷ [])) (end_more c since l) ∙ since_if c old parent since l (the_end c since) (end_in c l.entry)

parent_of_stop : (c parent : ℕ) (mark : Bool) (o : Option (LastOf Line)) → (alive_since parent mark c o).parent ≡ parent
parent_of_stop c parent mark None = refl
parent_of_stop c parent mark (Some stop) = refl

parent_since : (c parent : ℕ) (since : List Line) (o : Option EndOf) → parent_in (kept_since c parent since o) ≡ parent
parent_since c parent since None = parent_of_stop c parent (has_mark c since) (last_stop c since)
parent_since c parent since (Some e) = refl

life_told : (lines : List Line) (l : Line) (c : ℕ) (life : Option LifeSoFar) → is_just c (born_by l.entry) ≡ false
    → kept_of_life (lines ++ l ∷ []) c (option_map (lived l) life) ≡ made_by (heir_told (kept_of lines) l.entry) l.entry c (kept_of_life lines c life)
life_told lines l c None h = sym (unborn_stays (heir_told (kept_of lines) l.entry) l.entry c h)
life_told lines l c (Some x) h =
    let k = kept_since c (parent_of lines c) x.since (the_end c x.since) in
    let heir = heir_told (kept_of lines) l.entry in
    ap (λ (n : ℕ). kept_since c n (x.since ++ l ∷ []) (the_end c (x.since ++ l ∷ [])))
    (parent_more lines l c h ∙ ap (told_parent heir l.entry) (sym (parent_since c (parent_of lines c) x.since (the_end c x.since))))
    ∙ since_more c (parent_of lines c) (told_parent heir l.entry (parent_in k)) x.since l
    ∙ told_is_kept heir l.entry c k h

pub begun : (heir : ℕ) (entry : Entry) (c : ℕ) (k : Kept) → is_just c (born_by entry) ≡ true → newborn (or_zero (process_of entry)) ≡ made_by heir entry c k
unfolding made_by
begun heir (Called p call z) c k h = rw h refl
begun heir entry c k h = cc

told_if : (lines : List Line) (l : Line) (c : ℕ) (life : Option LifeSoFar) (t : Bool) → begins c l ≡ t
    → kept_of_life (lines ++ l ∷ []) c (cond t (Some (record { since = [] })) (option_map (lived l) life)) ≡ made_by (heir_told (kept_of lines) l.entry) l.entry c (kept_of_life lines c life)
told_if lines l c life true h =
    ap newborn (parents_more [] (λ q. 0) lines l c ∙ parent_born lines l.entry c h) ∙ begun (heir_told (kept_of lines) l.entry) l.entry c (kept_of_life lines c life) h
told_if lines l c life false h = life_told lines l c life h

-- What lines and one more say of a number is what that line makes of what they said.
pub kept_more : (lines : List Line) (l : Line) (c : ℕ) → kept_of (lines ++ l ∷ []) c ≡ kept_after (kept_of lines) l.entry c
unfolding kept_of
kept_more lines l c = ap (kept_of_life (lines ++ l ∷ []) c) (life_more lines c l) ∙ told_if lines l c (newest_life lines c) (begins c l) refl
