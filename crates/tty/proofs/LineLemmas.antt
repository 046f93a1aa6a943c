-- Facts about bytes that lengths cut into lines.
use Rattle.std.proofs.Common.{◌≡◌, ℕ, ◌+◌, ◌-◌, ◌<◌, ◌≤◌, ◌&&◌, true, Some, slice_get, nat_lt, nat_le, min, List, [], ◌∷◌, ◌++◌, length, take, drop, refl, ap, ◌∙◌, sym, subst, arith, append_assoc, length-append, length-drop, length-take}
use Rattle.std.specs.List.{AllByRecursion, sum}
use Rattle.std.proofs.lemmas.List.{append-nil, take-append-le, drop-append-le, take_all, drop_all, drop-drop, drop-take, take-take, take_at, drop_at, take_min}
use Rattle.std.proofs.lemmas.List.Sums.{sum_by-cons, sum_by_push}
use Rattle.std.proofs.lemmas.Bool.{and_parts, ltb-true, leb-true, lt-leb, cond-false}
use Rattle.posix.specs.Common.{has_room, lines_left, waiting, most_lines, most_waiting}
use Rattle.circular_buffer.specs.Buffer.{Buffer, buffer, keep_last}
use Rattle.tty.specs.Limits.{most_in_line, IsShort, AreFew}
use Rattle.tty.specs.Lines.{cut, AreLines, TakesLine}

-- the lengths of a list whose sum is the number of bytes: the first, and those of the rest
rest_of : (n : ℕ) (ns bs : List ℕ) → sum (n ∷ ns) ≡ length bs → (n ≤ length bs) × (sum ns ≡ length (drop n bs))
rest_of n ns bs e = let first = sum_by-cons (λ (x : ℕ). x) n ns in (omega (arith, e, first), omega (arith, e, first, length-drop n bs))

pub cut_length : (ns bs : List ℕ) → length (cut ns bs) ≡ length ns
cut_length [] bs = refl
cut_length (n ∷ ns) bs = omega (arith, cut_length ns (drop n bs))

-- the lines contain all the bytes
pub cut_waiting : (ns bs : List ℕ) → sum ns ≡ length bs → waiting (cut ns bs) ≡ length bs
unfolding waiting
cut_waiting [] bs e = e
cut_waiting (n ∷ ns) bs e =
    let rest = rest_of n ns bs e in
    omega (arith, sum_by-cons length (take n bs) (cut ns (drop n bs)), cut_waiting ns (drop n bs) rest.1, length-take n bs, length-drop n bs, rest.0)

pub cut_short : (ns bs : List ℕ) → AllByRecursion (λ n. n ≤ most_in_line) ns → AllByRecursion IsShort (cut ns bs)
cut_short [] bs a = tt
cut_short (n ∷ ns) bs a = (omega (arith, a.0, length-take n bs), cut_short ns (drop n bs) a.1)

-- one more line
pub cut_append : (ns bs line : List ℕ) → sum ns ≡ length bs → cut (ns ++ length line ∷ []) (bs ++ line) ≡ cut ns bs ++ line ∷ []
cut_append [] [] line e = ap (λ l. l ∷ []) (take_all (length line) line (omega arith))
cut_append [] (b ∷ bs) line e = absurd (omega (arith, e))
cut_append (n ∷ ns) bs line e =
    let rest = rest_of n ns bs e in
    (λ i. take-append-le n bs line rest.0 i ∷ cut (ns ++ length line ∷ []) (drop-append-le n bs line rest.0 i))
    ∙ ap (λ ls. take n bs ∷ ls) (cut_append ns (drop n bs) line rest.1)

-- what holds of the lines of a queue
pub cut_few : (ns bs : Buffer ℕ) → AreLines ns bs → AreFew (cut ns.items bs.items)
unfolding waiting
cut_few ns bs is = record {
  count = omega (arith, cut_length ns.items bs.items, is.few);
  bytes = omega (arith, cut_waiting ns.items bs.items is.all, is.few_bytes);
  each = cut_short ns.items bs.items is.each;
}

-- a line of two parts
pub room_of : (lines : List (List ℕ)) (line end : List ℕ) → (nat_lt (length lines) most_lines && nat_le (waiting lines + (length line + length end)) most_waiting) ≡ has_room (line ++ end) lines
unfolding has_room
room_of lines line end = ap (λ n. nat_lt (length lines) most_lines && nat_le (waiting lines + n) most_waiting) (sym (length-append line end))

-- how much room there is
has_room_parts : (lines : List (List ℕ)) (line : List ℕ) → has_room line lines ≡ true → (length lines < most_lines) × (waiting lines + length line ≤ most_waiting)
unfolding has_room
has_room_parts lines line room = let both = and_parts _ _ room in (ltb-true _ _ both.0, leb-true _ _ both.1)

-- all items of a list are added to a buffer that has room for them
appended : (xs ys : List ℕ) (capacity n : ℕ) (b : Buffer ℕ) → length xs + length ys ≤ capacity → n ≡ min (length ys) (capacity - length xs) → b ≡ buffer (xs ++ take n ys) capacity
    → b ≡ buffer (xs ++ ys) capacity
appended xs ys capacity n b fits e is = is ∙ ap (λ l. buffer (xs ++ l) capacity) (take_all n ys (omega (arith, fits, e)))

-- one list is added after another
appended_both : (b one two : Buffer ℕ) (xs ys : List ℕ) (m n : ℕ) → length b.items + (length xs + length ys) ≤ b.capacity
    → m ≡ min (length xs) (b.capacity - length b.items) → one ≡ buffer (b.items ++ take m xs) b.capacity
    → n ≡ min (length ys) (one.capacity - length one.items) → two ≡ buffer (one.items ++ take n ys) one.capacity
    → two ≡ buffer (b.items ++ (xs ++ ys)) b.capacity
appended_both b one two xs ys m n fits is_m is_one is_n is_two =
    let first = appended b.items xs b.capacity m one (omega (arith, fits)) is_m is_one in
    let long = length-append b.items xs in
    appended (b.items ++ xs) ys b.capacity n two (omega (arith, fits, long))
    (is_n ∙ ap (λ (c : Buffer ℕ). min (length ys) (c.capacity - length c.items)) first)
    (is_two ∙ ap (λ (c : Buffer ℕ). buffer (c.items ++ take n ys) c.capacity) first)
    ∙ ap (λ l. buffer l b.capacity) (append_assoc b.items xs ys)

-- one more item is added to a buffer that isn't full
pushed_one : (b new : Buffer ℕ) (x : ℕ) → length b.items < b.capacity → new ≡ buffer (keep_last b.capacity (b.items ++ x ∷ [])) b.capacity → new ≡ buffer (b.items ++ x ∷ []) b.capacity
pushed_one b new x room is =
    let none : length (b.items ++ x ∷ []) - b.capacity ≡ 0 = omega (arith, room, length-append b.items (x ∷ [])) in
    is ∙ ap (λ k. buffer (drop k (b.items ++ x ∷ [])) b.capacity) none

all_push : (ns : List ℕ) (n : ℕ) → AllByRecursion (λ n. n ≤ most_in_line) ns → n ≤ most_in_line → AllByRecursion (λ n. n ≤ most_in_line) (ns ++ n ∷ [])
all_push [] n a h = (h, tt)
all_push (m ∷ ns) n a h = (a.0, all_push ns n a.1 h)

-- a queue with one more line
pub pushed : (ns bs ns2 bs1 bs2 : Buffer ℕ) (lines : List (List ℕ)) (line end : List ℕ) (m n : ℕ)
    → AreLines ns bs → cut ns.items bs.items ≡ lines → has_room (line ++ end) lines ≡ true → length line + length end ≤ most_in_line
    → m ≡ min (length line) (bs.capacity - length bs.items) → bs1 ≡ buffer (bs.items ++ take m line) bs.capacity
    → n ≡ min (length end) (bs1.capacity - length bs1.items) → bs2 ≡ buffer (bs1.items ++ take n end) bs1.capacity
    → ns2 ≡ buffer (keep_last ns.capacity (ns.items ++ (length line + length end) ∷ [])) ns.capacity
    → AreLines ns2 bs2 × (cut ns2.items bs2.items ≡ lines ++ (line ++ end) ∷ [])
pushed ns bs ns2 bs1 bs2 lines line end m n are is room short is_m is_bs1 is_n is_bs2 is_ns2 =
    let parts = has_room_parts lines (line ++ end) room in
    let long = length-append line end in
    let few : length ns.items < most_lines = omega (arith, parts.0, cut_length ns.items bs.items, ap (λ (ls : List (List ℕ)). length ls) is) in
    let fits : length bs.items + (length line + length end) ≤ most_waiting = omega (arith, parts.1, long, cut_waiting ns.items bs.items are.all, ap waiting is) in
    let new_bytes = appended_both bs bs1 bs2 line end m n (omega (arith, fits, are.room_for_bytes)) is_m is_bs1 is_n is_bs2 in
    let new_lengths = pushed_one ns ns2 (length line + length end) (omega (arith, few, are.room)) is_ns2 in
    let ns' = buffer (ns.items ++ (length line + length end) ∷ []) ns.capacity in
    let bs' = buffer (bs.items ++ (line ++ end)) bs.capacity in
    let known : AreLines ns' bs' = record {
      room = are.room;
      room_for_bytes = are.room_for_bytes;
      few = omega (arith, few, length-append ns.items ((length line + length end) ∷ []));
      few_bytes = omega (arith, fits, long, length-append bs.items (line ++ end));
      all = omega (arith, are.all, long, sum_by_push (λ (x : ℕ). x) ns.items (length line + length end), length-append bs.items (line ++ end));
      each = all_push ns.items (length line + length end) are.each short;
    } in (
      subst (λ (b : Buffer ℕ). AreLines ns2 b) (sym new_bytes) (subst (λ (a : Buffer ℕ). AreLines a bs') (sym new_lengths) known),
      (λ i. cut (new_lengths i).items (new_bytes i).items)
          ∙ ap (λ k. cut (ns.items ++ k ∷ []) (bs.items ++ (line ++ end))) (sym long)
          ∙ cut_append ns.items bs.items (line ++ end) are.all
          ∙ ap (λ ls. ls ++ (line ++ end) ∷ []) is,
    )

-- ---- a read

-- the first length, and the others
first_of_all : (ns : List ℕ) (n : ℕ) → Some n ≡ slice_get ns 0 → ns ≡ n ∷ drop 1 ns
first_of_all [] n e = cc
first_of_all (x ∷ ns) n e = cc

-- the first line
record IsFirst (ns bs : Buffer ℕ) (n : ℕ) : Type 0 where
  within : n ≤ length bs.items
  short : n ≤ most_in_line
  rest : sum (drop 1 ns.items) ≡ length bs.items - n
  fewer : length (drop 1 ns.items) + 1 ≡ length ns.items
  each : AllByRecursion (λ m. m ≤ most_in_line) (drop 1 ns.items)
  is : cut ns.items bs.items ≡ take n bs.items ∷ cut (drop 1 ns.items) (drop n bs.items)

is_first : (ns bs : Buffer ℕ) (n : ℕ) → AreLines ns bs → Some n ≡ slice_get ns.items 0 → IsFirst ns bs n
is_first ns bs n are e =
    let split = first_of_all ns.items n e in
    let later = drop 1 ns.items in
    let all = rest_of n later bs.items (ap sum (sym split) ∙ are.all) in
    let each : AllByRecursion (λ m. m ≤ most_in_line) (n ∷ later) = subst (AllByRecursion (λ m. m ≤ most_in_line)) split are.each in
    record {
      within = all.0;
      short = each.0;
      rest = omega (arith, all.1, length-drop n bs.items);
      fewer = omega (arith, ap length split);
      each = each.1;
      is = ap (λ l. cut l bs.items) split;
    }

-- the rest of a line goes before the others
cut_partial : (n k : ℕ) (ns bs : List ℕ) → k ≤ n → cut ((n - k) ∷ ns) (drop k bs) ≡ drop k (take n bs) ∷ cut ns (drop n bs)
cut_partial n k ns bs within =
    let whole : k + (n - k) ≡ n = omega (arith, within) in
    λ i. (sym (drop-take k (n - k) bs) ∙ ap (λ m. drop k (take m bs)) whole) i ∷ cut ns ((drop-drop (n - k) k bs ∙ ap (λ m. drop m bs) whole) i)

-- how many bytes are read
pub taken_all : (ns bs : Buffer ℕ) (out : List ℕ) (n k r : ℕ) → AreLines ns bs → Some n ≡ slice_get ns.items 0 → k ≡ min n (length out) → r ≡ min (length (take k out)) (length bs.items) → r ≡ k
taken_all ns bs out n k r are e is_k is_r = let first = is_first ns bs n are e in omega (arith, first.within, is_k, is_r, length-take k out)

-- the bytes that are read
pub takes_line : (ns bs : Buffer ℕ) (lines : List (List ℕ)) (out into : List ℕ) (n k r : ℕ) → AreLines ns bs → cut ns.items bs.items ≡ lines → Some n ≡ slice_get ns.items 0
    → k ≡ min n (length out) → r ≡ min (length (take k out)) (length bs.items) → into ≡ take r bs.items ++ drop r (take k out) → TakesLine lines out (into ++ drop k out) k
takes_line ns bs lines out into n k r are is e is_k is_r is_into =
    let first = is_first ns bs n are e in
    let line = take n bs.items in
    let long : length line ≡ n = omega (arith, first.within, length-take n bs.items) in
    let all = taken_all ns bs out n k r are e is_k is_r in
    let read : into ≡ take k bs.items =
    is_into ∙ (λ i. take (all i) bs.items ++ drop (all i) (take k out)) ∙ ap (λ l. take k bs.items ++ l) (drop_all k (take k out) (omega (arith, length-take k out))) ∙ append-nil (take k bs.items) in
    let count : k ≡ min (length out) (length line) = omega (arith, is_k, long) in
    let size : length into ≡ k = omega (arith, ap length read, length-take k bs.items, first.within, is_k) in
    record {
      line = line;
      later = cut (drop 1 ns.items) (drop n bs.items);
      is = sym is ∙ first.is;
      number = count;
      bytes = take_at into (drop k out) k size ∙ read ∙ sym (take-take k n bs.items (omega (arith, is_k))) ∙ ap (λ m. take m line) count ∙ take_min (length out) line;
      rest = drop_at into (drop k out) k size;
    }

-- what is left of lines if the first is longer than the bytes read
left_long : (n : ℕ) (line : List ℕ) (later : List (List ℕ)) → n < length line → lines_left n (line ∷ later) ≡ drop n line ∷ later
left_long n line later long = cond-false _ _ _ (lt-leb (length line) n long)

-- a queue after a part of its first line was read
pub left_partly : (ns bs ns1 bs1 ns2 : Buffer ℕ) (lines : List (List ℕ)) (out : List ℕ) (n k r : ℕ) → AreLines ns bs → cut ns.items bs.items ≡ lines → Some n ≡ slice_get ns.items 0
    → k ≡ min n (length out) → r ≡ k → k < n
    → ns1 ≡ buffer (drop 1 ns.items) ns.capacity → bs1 ≡ buffer (drop r bs.items) bs.capacity → ns2 ≡ buffer (take ns1.capacity ((n - k) ∷ ns1.items)) ns1.capacity
    → AreLines ns2 bs1 × (cut ns2.items bs1.items ≡ lines_left (length out) lines)
left_partly ns bs ns1 bs1 ns2 lines out n k r are is e is_k all part is_ns1 is_bs1 is_ns2 =
    let first = is_first ns bs n are e in
    let later = drop 1 ns.items in
    let line = take n bs.items in
    let long : length line ≡ n = omega (arith, first.within, length-take n bs.items) in
    let count : k ≡ length out = omega (arith, is_k, part) in
    let lengths : ns2 ≡ buffer ((n - k) ∷ later) ns.capacity =
    is_ns2 ∙ ap (λ (b : Buffer ℕ). buffer (take b.capacity ((n - k) ∷ b.items)) b.capacity) is_ns1
    ∙ ap (λ l. buffer l ns.capacity) (take_all ns.capacity ((n - k) ∷ later) (omega (arith, are.room, are.few, first.fewer))) in
    let bytes : bs1 ≡ buffer (drop k bs.items) bs.capacity = is_bs1 ∙ ap (λ m. buffer (drop m bs.items) bs.capacity) all in
    let known : AreLines (buffer ((n - k) ∷ later) ns.capacity) (buffer (drop k bs.items) bs.capacity) = record {
      room = are.room;
      room_for_bytes = are.room_for_bytes;
      few = omega (arith, are.few, first.fewer);
      few_bytes = omega (arith, are.few_bytes, length-drop k bs.items);
      all = omega (arith, sum_by-cons (λ (x : ℕ). x) (n - k) later, first.rest, first.within, part, length-drop k bs.items);
      each = (omega (arith, first.short), first.each);
    } in (
      subst (λ (b : Buffer ℕ). AreLines ns2 b) (sym bytes) (subst (λ (a : Buffer ℕ). AreLines a (buffer (drop k bs.items) bs.capacity)) (sym lengths) known),
      (λ i. cut (lengths i).items (bytes i).items)
          ∙ cut_partial n k later bs.items (omega (arith, part))
          ∙ ap (λ m. drop m line ∷ cut later (drop n bs.items)) count
          ∙ sym (left_long (length out) line (cut later (drop n bs.items)) (omega (arith, long, count, part)))
          ∙ ap (lines_left (length out)) (sym first.is ∙ is),
    )
