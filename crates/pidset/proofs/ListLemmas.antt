-- Lists that grow and are read off as pairs.
use Rattle.std.proofs.Common.{◌≡◌, ◌≢◌, ◌⊎◌, ℕ, zero, suc, ◌+◌, ◌*◌, ◌/◌, ◌<◌, ◌≤◌, nat_lt, Bool, true, false, cond, not, ◌&&◌, refl, ap, sym, ◌∙◌, subst, arith, inl, inr, List, length, ◌==◌, Option, Some, None}
use Rattle.std.specs.List.{filter_map, cons_option, range_with_len}
use Rattle.std.specs.Option.{IfSome, unwrap_or}
use Rattle.std.proofs.lemmas.Bool.{ne_eqb, cases_eq}
use Rattle.std.proofs.lemmas.Bool.Decides.{nat_tests}
use Rattle.pidset.specs.declared.index.Pair.{Pair}
use Rattle.pidset.specs.declared.lists.Node.{Node}
use Rattle.pidset.specs.Indexes.{ArePairsRekeyed, IsAt, IsNextPair, IsMoved, is_pair_in}
use Rattle.pidset.specs.Rows.{HasRoom, HasRow, IsOnAnotherPage, sizes_of, row_or, without_page}
use Rattle.pidset.specs.Lists.{ListsView, Nodes, IsPageUnused, without_page_of, node_of, list_of, behind_of, before_of, pair_of, pairs_in, AreLinked, IsFrom}
use Rattle.pidset.proofs.RowLemmas.{page_there, sizes_left}
use Rattle.pidset.proofs.NodeLemmas.{nowhere, node_left, node_gone}
use Rattle.pidset.proofs.LinkLemmas.{inside, list_inside, kept}

-- ---- the pairs

in_step : (ns : Nodes) (a n k q : ℕ) (rest : List Pair) → is_pair_in k q rest ≡ (not (nat_lt q (a + 1)) && (nat_lt q (a + 1 + n) && (not (k == 0) && list_of ns q == k)))
    → is_pair_in k q (cons_option (pair_of ns a) rest) ≡ (not (nat_lt q a) && (nat_lt q (a + suc n) && (not (k == 0) && list_of ns q == k)))
unfolding is_pair_in
in_step ns a n k q rest ih = grind (arith, nat_tests)

in_none : (a n k q : ℕ) (b : Bool) → n ≡ a → false ≡ (not (nat_lt q a) && (nat_lt q n && b))
in_none a n k q b e = grind (arith, nat_tests)

-- which processes among some IDs are in lists
in_range : (ns : Nodes) (a n k q : ℕ) → is_pair_in k q (filter_map (pair_of ns) (range_with_len a n)) ≡ (not (nat_lt q a) && (nat_lt q (a + n) && (not (k == 0) && list_of ns q == k)))
unfolding is_pair_in
in_range ns a zero k q = in_none a (a + 0) k q _ (omega arith)
in_range ns a (suc n) k q = in_step ns a n k q _ (in_range ns (a + 1) n k q)

-- an ID without a node is in no list
pub list_outside : (ns : Nodes) (p : ℕ) → (HasRow ns p → ⊥) → list_of ns p ≡ 0
list_outside ns p out = elim (cases_eq (list_of ns p) 0) [ inl e ↦ e | inr ne ↦ absurd (out (inside ns p ne)) ]

-- a process in a list has an ID on an existing page
within : (ns : Nodes) (i : ℕ) → 0 + 1024 * length ns ≤ i → list_of ns i ≡ 0
within ns i past = list_outside ns i (λ h. let l = page_there ns i h in omega (arith, past, l))

-- the pairs say which list contains each process
pub in_pairs : (ns : Nodes) (k p : ℕ) → is_pair_in k p (pairs_in ns) ≡ (not (k == 0) && list_of ns p == k)
unfolding pairs_in
in_pairs ns k p = in_range ns 0 (1024 * length ns) k p ∙ grind (arith, nat_tests, within ns p)

pub next_some : (ns : Nodes) (k n m : ℕ) (pairs : List Pair) → pairs ≡ pairs_in ns → k ≢ 0 → IsFrom ns k n m → m ≢ 0 → n < m → IsNextPair k n pairs (Some m)
next_some ns k n m pairs is nk f some less = record { there = λ p e. grind (arith, nat_tests, in_pairs ns k p); least = λ p e h. (m, refl, grind (arith, nat_tests, in_pairs ns k p, f.least p)) }

pub next_none : (ns : Nodes) (k n m : ℕ) (pairs : List Pair) → pairs ≡ pairs_in ns → IsFrom ns k n m → m ≡ 0 → IsNextPair k n pairs None
next_none ns k n m pairs is f none = record { there = λ p e. grind arith; least = λ p e h. grind (arith, nat_tests, in_pairs ns k p, f.least p) }

nobody : (ns : Nodes) (k p : ℕ) → AreLinked ns → (k ≡ 0) ⊎ (HasRow ns k → ⊥) → 1 ≤ p → (not (k == 0) && list_of ns p == k) ≡ true → ⊥
nobody ns k p l (inl e) h t = grind (arith, nat_tests)
nobody ns k p l (inr out) h t =
    let e : list_of ns p ≡ k = grind (arith, nat_tests) in
    let nk : k ≢ 0 = grind (arith, nat_tests) in
    out (subst (HasRow ns) e (list_inside ns p l (λ z. nk (sym e ∙ z)) h))

-- a list without a node is empty
pub next_outside : (ns : Nodes) (k n : ℕ) (pairs : List Pair) → pairs ≡ pairs_in ns → AreLinked ns → (k ≡ 0) ⊎ (HasRow ns k → ⊥) → IsNextPair k n pairs None
next_outside ns k n pairs is l out = record { there = λ p e. grind arith; least = λ p e h. absurd (nobody ns k p l out (omega (arith, h)) (sym (in_pairs ns k p) ∙ ap (is_pair_in k p) (sym is) ∙ e)) }

-- the ID of a list is not 0
pub key_is : (key : Option ℕ) (sizes : List ℕ) → IfSome key (λ k. (1 ≤ k) × HasRoom sizes k) → IfSome key (λ k. 1 ≤ k)
key_is None sizes h = tt
key_is (Some k) sizes h = h.0

pub moved : (old new : Nodes) (p l : ℕ) (key : Option ℕ) (was is : List Pair) → was ≡ pairs_in old → is ≡ pairs_in new → l ≡ unwrap_or key 0 → IfSome key (λ k. 1 ≤ k) → ((i : ℕ) → list_of new i ≡ cond (i == p) l (list_of old i)) → IsMoved p key was is
moved old new p l key was is e f to some list k q = grind (arith, nat_tests, in_pairs new k q, in_pairs old k q, list q)

pub rekeyed : (old new : Nodes) (from to : ℕ) (was is : List Pair) → was ≡ pairs_in old → is ≡ pairs_in new → from ≢ to → 1 ≤ from → 1 ≤ to → ((i : ℕ) → list_of new i ≡ cond (list_of old i == from) to (list_of old i)) → ArePairsRekeyed from to was is
rekeyed old new from to was is e f apart hf ht list k p = grind (arith, nat_tests, in_pairs new k p, in_pairs old k p, in_pairs old from p, list p)

-- a process is only in its list, or in none
pub at_list : (ns : Nodes) (p : ℕ) (key : Option ℕ) (pairs : List Pair) → pairs ≡ pairs_in ns → list_of ns p ≡ unwrap_or key 0 → IfSome key (λ k. 1 ≤ k) → IsAt p key pairs
at_list ns p key pairs is e some k = grind (arith, nat_tests, in_pairs ns k p)

-- ---- memory for more IDs, and for fewer

same_pair : (old new : Nodes) (i : ℕ) → list_of new i ≡ list_of old i → pair_of new i ≡ pair_of old i
same_pair old new i e = ap (λ k. cond (k == 0) None (Some (record { key = k; pid = i }))) e

no_pair : (ns : Nodes) (i : ℕ) → list_of ns i ≡ 0 → pair_of ns i ≡ None
no_pair ns i e = ap (λ k. cond (k == 0) None (Some (record { key = k; pid = i }))) e

-- if all are in the same lists as before, and none above some IDs, the pairs are the same
same_range : (old new : Nodes) (a m n : ℕ) → ((i : ℕ) → list_of new i ≡ list_of old i) → ((i : ℕ) → a + m ≤ i → list_of old i ≡ 0) → ((i : ℕ) → a + n ≤ i → list_of old i ≡ 0)
    → filter_map (pair_of new) (range_with_len a m) ≡ filter_map (pair_of old) (range_with_len a n)
same_range old new a zero zero list f g = refl
same_range old new a zero (suc n) list f g = rw (no_pair old a (f a (omega arith))) (same_range old new (a + 1) zero n list (λ i l. f i (omega (arith, l))) (λ i l. g i (omega (arith, l))))
same_range old new a (suc m) zero list f g = rw (no_pair new a (list a ∙ g a (omega arith))) (same_range old new (a + 1) m zero list (λ i l. f i (omega (arith, l))) (λ i l. g i (omega (arith, l))))
same_range old new a (suc m) (suc n) list f g = rw (same_pair old new a (list a)) (ap (cons_option (pair_of old a)) (same_range old new (a + 1) m n list (λ i l. f i (omega (arith, l))) (λ i l. g i (omega (arith, l)))))

same_pairs : (old new : Nodes) → ((i : ℕ) → list_of new i ≡ list_of old i) → pairs_in new ≡ pairs_in old
unfolding pairs_in
same_pairs old new list = same_range old new 0 (1024 * length new) (1024 * length old) list (λ i l. sym (list i) ∙ within new i l) (within old)

-- what stays the same
pub record AreSameLists (new : Nodes) (was : List Pair) : Type 0 where
  pub linked : AreLinked new
  pub pairs : pairs_in new ≡ was

pub grown : (old new : Nodes) (pairs : List Pair) → pairs_in old ≡ pairs → AreLinked old → ((i : ℕ) → row_or nowhere new i ≡ row_or nowhere old i) → AreSameLists new pairs
unfolding node_of list_of behind_of before_of
grown old new pairs is l same = record {
  linked = kept old new (λ i. ap (λ (n : Node). n.list) (same i)) (λ k a _ _. (rw (same k, same a) refl, rw (same k, same a) refl)) l;
  pairs = same_pairs old new (λ i. ap (λ (n : Node). n.list) (same i)) ∙ is;
}

-- ---- a page is freed

-- a process in a list and that list keep their nodes
apart_from : (ns : Nodes) (n k p : ℕ) → IsPageUnused n (pairs_in ns) → k ≢ 0 → list_of ns p ≡ k → IsOnAnotherPage k n × IsOnAnotherPage p n
apart_from ns n k p apart nk e = apart k p (in_pairs ns k p ∙ grind (arith, nat_tests))

left_list : (ns : Nodes) (n : ℕ) → IsPageUnused n (pairs_in ns) → (i : ℕ) → list_of (without_page ns n) i ≡ list_of ns i
unfolding list_of
left_list ns n apart i = elim (cases_eq (i / 1024) (n / 1024)) [
  | inr far ↦ ap (λ (n : Node). n.list) (node_left ns n i far)
  | inl same ↦ ap (λ (n : Node). n.list) (node_gone ns n i same) ∙ sym (elim (cases_eq (list_of ns i) 0) [ inl e ↦ e | inr some ↦ absurd ((apart_from ns n (list_of ns i) i apart some refl).1 same) ])
]

-- a list whose node is freed has no first and no last process
ends : (ns : Nodes) (n k : ℕ) → IsPageUnused n (pairs_in ns) → AreLinked ns → k ≢ 0 → k / 1024 ≡ n / 1024 → (behind_of ns k 0 ≡ 0) × (before_of ns k 0 ≡ 0)
ends ns n k apart l nk same =
    let nobody : (p : ℕ) → list_of ns p ≢ k = λ p e. (apart_from ns n k p apart nk e).0 same in
    (elim (l.behind k 0 nk (inl refl)).there [ inl e ↦ e | inr w ↦ absurd (nobody _ w.1) ], elim (l.before k 0 nk (inl refl)).0 [ inl e ↦ e | inr e ↦ absurd (nobody _ e) ])

left_ends : (ns : Nodes) (n k : ℕ) → IsPageUnused n (pairs_in ns) → AreLinked ns → k ≢ 0 → (behind_of (without_page ns n) k 0 ≡ behind_of ns k 0) × (before_of (without_page ns n) k 0 ≡ before_of ns k 0)
unfolding behind_of before_of
left_ends ns n k apart l nk = elim (cases_eq (k / 1024) (n / 1024)) [
  | inr far ↦ let e = node_left ns n k far in (ap (λ (n : Node). n.first) e, ap (λ (n : Node). n.last) e)
  | inl same ↦ let e = node_gone ns n k same in let z = ends ns n k apart l nk same in (ap (λ (n : Node). n.first) e ∙ sym z.0, ap (λ (n : Node). n.last) e ∙ sym z.1)
]

left_links : (ns : Nodes) (n k a : ℕ) → IsOnAnotherPage a n → a ≢ 0 → (behind_of (without_page ns n) k a ≡ behind_of ns k a) × (before_of (without_page ns n) k a ≡ before_of ns k a)
unfolding behind_of before_of
left_links ns n k a far some = rw (ne_eqb a 0 some) (let e = node_left ns n a far in (ap (λ (n : Node). n.behind) e, ap (λ (n : Node). n.before) e))

pub left : (ns new : Nodes) (n : ℕ) (v : ListsView) → record { pairs = pairs_in ns; sizes = sizes_of ns } ≡ v → new ≡ without_page ns n → AreLinked ns → IsPageUnused n v.pairs
    → AreLinked new × (record { pairs = pairs_in new; sizes = sizes_of new } ≡ without_page_of n v)
left ns new n v is e l stays =
    let apart : IsPageUnused n (pairs_in ns) = subst (λ w. IsPageUnused n w.pairs) (sym is) stays in
    let list = left_list ns n apart in
    rw (e, ← is) (
      kept ns (without_page ns n) list (λ k a nk h. elim (cases_eq a 0) [
        | inl z ↦ rw z (left_ends ns n k apart l nk)
        | inr some ↦ left_links ns n k a (apart_from ns n k a apart nk (elim h [ inl z ↦ absurd (some z) | inr t ↦ t ])).1 some
      ]) l,
      rw (same_pairs ns (without_page ns n) list, sizes_left ns n) refl,
    )
