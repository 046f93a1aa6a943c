-- The book after the schedules of all nodes were counted.
use Rattle.std.proofs.Common.{◌≡◌, ℕ, zero, suc, ◌+◌, ◌-◌, ◌≤◌, Bool, true, false, cond, Option, Some, None, List, [], ◌∷◌, length, map, slice_index_or, refl, ap, ap₂, sym, ◌∙◌, arith}
use Rattle.std.specs.Prelude.{count_by, find, slice_get}
use Rattle.std.proofs.lemmas.List.Sums.{sum_by-cons}
use Rattle.posix.specs.declared.event.Event.{Event}
use Rattle.posix.specs.Common.{World, boot}
use Rattle.schedules.specs.Families.{Spots, family, kinds_of}
use Rattle.counting.specs.declared.ending.Ending.{Ending}
use Rattle.counting.specs.declared.ending.Ending.TheVariants.{AtRest, AwaitsAlarm, Going, Halted}
use Rattle.counting.specs.declared.ending.Endings.{Endings}
use Rattle.counting.specs.Books.{BookView, empty_book, unseen, with_many_runs}
use Rattle.counting.specs.Counts.{book_over, find_over, shows, tally_over}
use Rattle.counting.specs.Courses.{course_from, course_of}
use Rattle.counting.specs.Endings.{ending_of, is_alarmed, is_at_rest, is_going, is_halted, with_many_endings}
use Rattle.counting.specs.Tallies.{TallyView, both, no_schedules}
use Rattle.counting.specs.Texts.{FindView, marked, unmarked, with_many, with_marked}
use Rattle.merging.specs.declared.begun.Begun.{Begun}
use Rattle.merging.specs.declared.node.Node.{Node}
use Rattle.merging.specs.Merging.{Outlook, Point, Property, begun_tally, behind, counted_all, counted_slots, if_none_left, one_if, point, slots_tally, tally_from, tally_of_nodes, tally_of_rest}
use Rattle.merging.proofs.MergeLemmas.{mark_is, merged_tally, tally_at_rest, tally_rest_is}
use Rattle.merging.proofs.TallyLemmas.{and_none, behind_false, behind_true, both_regrouped, both_swapped, none_and}

-- ---- beginnings at a point

-- A node has no loose event left, and no beginnings that have passed.
pub record IsDone (n : Node) : Type 0 where
  pub left : n.left.items ≡ []
  pub passed : n.passed ≡ []

abbrev AreDone : List Node → Type 0
AreDone nodes = (i : ℕ) (n : Node) → slice_get nodes i ≡ Some n → IsDone n

-- How the run from a point by these events ends, and which texts it shows.
abbrev ends_with : List Event → Point → Ending
ends_with rest p = ending_of (course_from 1 p.state rest).last

abbrev marks_with : List (List ℕ) → List Event → Point → List Bool
marks_with texts rest p = marked texts (course_from 1 p.state rest).lines p.marks

-- The schedules of beginnings that insert nothing more.
abbrev only : Begun → TallyView
only b = record { count = b.count; first = Some b.spots }

abbrev if_so : Bool → TallyView → TallyView
if_so b t = cond b t no_schedules

behind_if : (has : Bool) (b : Begun) → behind b.count b.spots (one_if has) ≡ if_so has (only b)
behind_if true b = behind_true b.count b.spots
behind_if false b = behind_false b.count b.spots

-- Those that have a property, if no loose event is left.
begun_is : (has : Property) (texts : List (List ℕ)) (loose rest : List Event) (upto most : ℕ) (p : Point) (b : Begun) → p.left ≡ []
    → begun_tally (tally_from has texts loose 0 upto rest) most p b ≡ if_so (has (ends_with rest p) (marks_with texts rest p)) (only b)
begun_is has texts loose rest upto most p b none =
    ap (behind b.count b.spots)
    (tally_at_rest has texts loose upto rest (most - length b.spots) p.left p.state p.marks
    ∙ ap (λ left. if_none_left left (tally_of_rest has texts rest p.state p.marks)) none
    ∙ tally_rest_is has texts rest p.state p.marks)
    ∙ behind_if (has (ends_with rest p) (marks_with texts rest p)) b

-- Before all others, or after them.
put_first : (t u v : TallyView) → both (both t u) v ≡ both t (both v u)
put_first t u v = both_regrouped t u v ∙ ap (both t) (both_swapped u v)

-- ---- endings

many_with : (ending : Ending) (t : TallyView) (e : Endings) → with_many_endings ending t e ≡ record {
  halted = both e.halted (if_so (is_halted ending) t);
  at_rest = both e.at_rest (if_so (is_at_rest ending) t);
  alarmed = both e.alarmed (if_so (is_alarmed ending) t);
  going = both e.going (if_so (is_going ending) t);
}
many_with Halted t e = rw (and_none e.at_rest, and_none e.alarmed, and_none e.going) refl
many_with AtRest t e = rw (and_none e.halted, and_none e.alarmed, and_none e.going) refl
many_with AwaitsAlarm t e = rw (and_none e.halted, and_none e.going) refl
many_with Going t e = rw (and_none e.halted, and_none e.at_rest, and_none e.alarmed) refl

endings_same : (a b : Endings) → a.halted ≡ b.halted → a.at_rest ≡ b.at_rest → a.alarmed ≡ b.alarmed → a.going ≡ b.going → a ≡ b
endings_same a b halted at_rest alarmed going =
    ap₂ (λ x y. record { halted = x; at_rest = y; alarmed = a.alarmed; going = a.going }) halted at_rest
    ∙ ap₂ (λ x y. record { halted = b.halted; at_rest = b.at_rest; alarmed = x; going = y }) alarmed going

-- ---- texts

-- For each text, what is counted by its index.
abbrev finds_by : List (List ℕ) → (ℕ → TallyView) → List FindView
finds_by [] by = []
finds_by (t ∷ ts) by = record { text = t; is_there = false; tally = by 0 } ∷ finds_by ts (λ i. by (suc i))

by_same : (texts : List (List ℕ)) (f g : ℕ → TallyView) → ((i : ℕ) → f i ≡ g i) → finds_by texts f ≡ finds_by texts g
by_same [] f g e = refl
by_same (t ∷ ts) f g e =
    ap₂ (λ (x : TallyView) (fs : List FindView). record { text = t; is_there = false; tally = x } ∷ fs) (e 0) (by_same ts (λ i. f (suc i)) (λ i. g (suc i)) (λ i. e (suc i)))

by_none : (texts : List (List ℕ)) → map unseen texts ≡ finds_by texts (λ i. no_schedules)
by_none [] = refl
by_none (t ∷ ts) = ap (λ fs. unseen t ∷ fs) (by_none ts)

no_marks : (i : ℕ) → slice_index_or {A = Bool} [] i false ≡ false
no_marks zero = refl
no_marks (suc i) = refl

with_mark : (mark : Bool) (t : TallyView) (f : FindView) → cond mark (with_many t f) f ≡ record f { tally = both f.tally (if_so mark t) }
with_mark true t f = refl
with_mark false t f = ap (λ x. record f { tally = x }) (sym (and_none f.tally))

by_marks : (texts : List (List ℕ)) (t : TallyView) (marks : List Bool) (by : ℕ → TallyView)
    → with_marked t marks (finds_by texts by) ≡ finds_by texts (λ i. both (by i) (if_so (slice_index_or marks i false) t))
by_marks [] t marks by = refl
by_marks (x ∷ texts) t [] by =
    by_same (x ∷ texts) by (λ i. both (by i) (if_so (slice_index_or [] i false) t))
    (λ i. sym (and_none (by i)) ∙ ap (λ b. both (by i) (if_so b t)) (sym (no_marks i)))
by_marks (x ∷ texts) t (m ∷ marks) by =
    ap₂ (λ f fs. f ∷ fs) (with_mark m t (record { text = x; is_there = false; tally = by 0 })) (by_marks texts t marks (λ i. by (suc i)))

-- ---- what a book counts

-- The text at the index is marked.
abbrev is_marked : ℕ → Property
is_marked i ending marks = slice_index_or marks i false

-- Each schedule has it.
abbrev always : Property
always ending marks = true

-- A book counts schedules, of which this many have a property.
record Counts (texts : List (List ℕ)) (b : BookView) (t : Property → TallyView) : Type 0 where
  halted : b.endings.halted ≡ t (λ ending marks. is_halted ending)
  at_rest : b.endings.at_rest ≡ t (λ ending marks. is_at_rest ending)
  alarmed : b.endings.alarmed ≡ t (λ ending marks. is_alarmed ending)
  going : b.endings.going ≡ t (λ ending marks. is_going ending)
  finds : b.finds ≡ finds_by texts (λ i. t (is_marked i))
  total : b.total ≡ (t always).count

counts_same : (texts : List (List ℕ)) (b : BookView) (t u : Property → TallyView) → ((has : Property) → t has ≡ u has) → Counts texts b t → Counts texts b u
counts_same texts b t u same c = record {
  halted = c.halted ∙ same (λ ending marks. is_halted ending);
  at_rest = c.at_rest ∙ same (λ ending marks. is_at_rest ending);
  alarmed = c.alarmed ∙ same (λ ending marks. is_alarmed ending);
  going = c.going ∙ same (λ ending marks. is_going ending);
  finds = c.finds ∙ by_same texts (λ i. t (is_marked i)) (λ i. u (is_marked i)) (λ i. same (is_marked i));
  total = c.total ∙ ap (λ x. x.count) (same always);
}

counts_none : (texts : List (List ℕ)) → Counts texts (empty_book texts) (λ has. no_schedules)
counts_none texts = record { halted = refl; at_rest = refl; alarmed = refl; going = refl; finds = by_none texts; total = refl }

counts_more : (texts : List (List ℕ)) (ending : Ending) (marks : List Bool) (more : TallyView) (b : BookView) (t : Property → TallyView) → Counts texts b t
    → Counts texts (with_many_runs ending marks more b) (λ has. both (t has) (if_so (has ending marks) more))
counts_more texts ending marks more b t c =
    let e = many_with ending more b.endings in
    record {
      halted = ap (λ (x : Endings). x.halted) e ∙ ap (λ x. both x (if_so (is_halted ending) more)) c.halted;
      at_rest = ap (λ (x : Endings). x.at_rest) e ∙ ap (λ x. both x (if_so (is_at_rest ending) more)) c.at_rest;
      alarmed = ap (λ (x : Endings). x.alarmed) e ∙ ap (λ x. both x (if_so (is_alarmed ending) more)) c.alarmed;
      going = ap (λ (x : Endings). x.going) e ∙ ap (λ x. both x (if_so (is_going ending) more)) c.going;
      finds = ap (with_marked more marks) c.finds ∙ by_marks texts more marks (λ i. t (is_marked i));
      total = ap (λ n. n + more.count) c.total;
    }

-- ---- the schedules of all nodes

slots_counted : (texts : List (List ℕ)) (loose rest : List Event) (upto most : ℕ) (p : Point) (bs : List (Option Begun)) (b : BookView) (t : Property → TallyView) → p.left ≡ [] → Counts texts b t
    → Counts texts (counted_slots texts rest p bs b) (λ has. both (t has) (slots_tally (tally_from has texts loose 0 upto rest) most p bs))
slots_counted texts loose rest upto most p [] b t none c = counts_same texts b t (λ has. both (t has) no_schedules) (λ has. sym (and_none (t has))) c
slots_counted texts loose rest upto most p (None ∷ bs) b t none c =
    let later = λ (has : Property). slots_tally (tally_from has texts loose 0 upto rest) most p bs in
    counts_same texts (counted_slots texts rest p bs b) (λ has. both (t has) (later has)) (λ has. both (t has) (both no_schedules (later has)))
    (λ has. ap (both (t has)) (sym (none_and (later has))))
    (slots_counted texts loose rest upto most p bs b t none c)
slots_counted texts loose rest upto most p (Some x ∷ bs) b t none c =
    let ending = ends_with rest p in
    let marks = marks_with texts rest p in
    let before = λ (has : Property). both (t has) (slots_tally (tally_from has texts loose 0 upto rest) most p bs) in
    let after = λ (has : Property). both (t has) (slots_tally (tally_from has texts loose 0 upto rest) most p (Some x ∷ bs)) in
    counts_same texts (counted_slots texts rest p (Some x ∷ bs) b) (λ has. both (before has) (if_so (has ending marks) (only x))) after
    (λ has.
    ap (both (before has)) (sym (begun_is has texts loose rest upto most p x none))
    ∙ put_first (t has) (slots_tally (tally_from has texts loose 0 upto rest) most p bs) (begun_tally (tally_from has texts loose 0 upto rest) most p x))
    (counts_more texts ending marks (only x) (counted_slots texts rest p bs b) before (slots_counted texts loose rest upto most p bs b t none c))

nodes_counted : (texts : List (List ℕ)) (loose rest : List Event) (upto most : ℕ) (past : Property → Outlook) (nodes : List Node) → AreDone nodes
    → Counts texts (counted_all texts rest nodes (empty_book texts)) (λ has. tally_of_nodes (tally_from has texts loose 0 upto rest) (past has) most nodes)
nodes_counted texts loose rest upto most past [] done = counts_none texts
nodes_counted texts loose rest upto most past (n ∷ ns) done =
    let is = done 0 n refl in
    let here = λ (has : Property). slots_tally (tally_from has texts loose 0 upto rest) most (point n) n.begun in
    let later = λ (has : Property). tally_of_nodes (tally_from has texts loose 0 upto rest) (past has) most ns in
    counts_same texts (counted_all texts rest (n ∷ ns) (empty_book texts)) (λ has. both (later has) (here has)) (λ has. tally_of_nodes (tally_from has texts loose 0 upto rest) (past has) most (n ∷ ns))
    (λ has.
    both_swapped (later has) (here has)
    ∙ ap (λ u. both u (later has)) (sym (and_none (here has)) ∙ ap (λ qs. both (here has) (slots_tally (past has) most (point n) qs)) (sym is.passed)))
    (slots_counted texts loose rest upto most (point n) n.begun (counted_all texts rest ns (empty_book texts)) later is.left
    (nodes_counted texts loose rest upto most past ns (λ i m e. done (suc i) m e)))

-- ---- over the family

over_same : (f g : Spots → Bool) (xs : List Spots) → ((ps : Spots) → f ps ≡ g ps) → tally_over f xs ≡ tally_over g xs
over_same f g xs e = ap₂ (λ n o. record { count = n; first = o }) (counts xs) (finds xs)
  where
    counts : (xs : List Spots) → count_by f xs ≡ count_by g xs
    counts [] = refl
    counts (x ∷ xs) =
        sum_by-cons (λ (ps : Spots). cond (f ps) 1 0) x xs
        ∙ ap₂ (λ b n. cond b 1 0 + n) (e x) (counts xs)
        ∙ sym (sum_by-cons (λ (ps : Spots). cond (g ps) 1 0) x xs)

    finds : (xs : List Spots) → find f xs ≡ find g xs
    finds [] = refl
    finds (x ∷ xs) = ap₂ (λ b o. cond b (Some x) o) (e x) (finds xs)

all_counted : (xs : List Spots) → count_by (λ (ps : Spots). true) xs ≡ length xs
all_counted [] = refl
all_counted (x ∷ xs) =
    let first = sum_by-cons (λ (ps : Spots). 1) x xs in
    let later = all_counted xs in
    omega (arith, first, later)

texts_over : (world : World) (loose events : List Event) (schedules : List Spots) (texts : List (List ℕ)) (by : ℕ → TallyView)
    → ((i : ℕ) (t : List ℕ) → slice_get texts i ≡ Some t → by i ≡ tally_over (shows t world loose events) schedules)
    → finds_by texts by ≡ map (find_over world loose events schedules) texts
texts_over world loose events schedules [] by e = refl
texts_over world loose events schedules (t ∷ ts) by e =
    ap₂ (λ (x : TallyView) (fs : List FindView). record { text = t; is_there = false; tally = x } ∷ fs) (e 0 t refl)
    (texts_over world loose events schedules ts (λ i. by (suc i)) (λ i u is. e (suc i) u is))

book_same : (a b : BookView) → a.endings ≡ b.endings → a.finds ≡ b.finds → a.total ≡ b.total → a ≡ b
book_same a b endings finds total =
    ap₂ (λ e n. record { endings = e; finds = a.finds; total = n }) endings total
    ∙ ap (λ fs. record { endings = b.endings; finds = fs; total = b.total }) finds

-- If the schedules that continue from these nodes are those of the family, the book of all nodes is the book of the
-- family.
pub counted_book : (texts : List (List ℕ)) (world : World) (loose events rest : List Event) (upto ticks : ℕ) (past : Property → Outlook) (nodes : List Node) → upto ≤ length events
    → ((i : ℕ) (n : Node) → slice_get nodes i ≡ Some n → IsDone n)
    → ((has : Property) → tally_of_nodes (tally_from has texts loose 0 upto rest) (past has) (ticks + length loose) nodes
    ≡ tally_from has texts loose upto 0 events (ticks + length loose) (kinds_of (length loose)) (boot world) (unmarked texts))
    → counted_all texts rest nodes (empty_book texts) ≡ book_over world loose events texts (family upto ticks (length loose))
counted_book texts world loose events rest upto ticks past nodes few done same =
    book_same (counted_all texts rest nodes (empty_book texts)) (book_over world loose events texts all)
    (endings_same (counted_all texts rest nodes (empty_book texts)).endings (book_over world loose events texts all).endings counts.halted counts.at_rest counts.alarmed counts.going)
    (counts.finds ∙ texts_over world loose events all texts (λ i. whole (is_marked i)) shown_by)
    (counts.total ∙ all_counted all)
  where
    all : List Spots
    all = family upto ticks (length loose)

    whole : Property → TallyView
    whole has = tally_over (λ ps. has (ending_of (course_of world loose events ps).last) (marked texts (course_of world loose events ps).lines (unmarked texts))) all

    counts : Counts texts (counted_all texts rest nodes (empty_book texts)) whole
    counts =
        counts_same texts (counted_all texts rest nodes (empty_book texts)) (λ has. tally_of_nodes (tally_from has texts loose 0 upto rest) (past has) (ticks + length loose) nodes) whole
        (λ has. same has ∙ merged_tally has texts world loose events upto ticks few)
        (nodes_counted texts loose rest upto (ticks + length loose) past nodes done)

    shown_by : (i : ℕ) (t : List ℕ) → slice_get texts i ≡ Some t → whole (is_marked i) ≡ tally_over (shows t world loose events) all
    shown_by i t at =
        over_same (λ ps. slice_index_or (marked texts (course_of world loose events ps).lines (unmarked texts)) i false) (shows t world loose events) all
        (λ ps. mark_is texts (course_of world loose events ps).lines i t at)
