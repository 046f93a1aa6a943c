-- Laws of texts to find, and of books.
use Rattle.std.proofs.Common.{Bor, ◌≡◌, ℕ, ◌+◌, ◌<◌, Bool, true, false, ◌||◌, List, [], ◌∷◌, ◌++◌, length, map, take, get_or, refl, ap, ap₂, sym, ◌∙◌, arith}
use Rattle.std.proofs.Math.Bool.{or-false}
use Rattle.std.specs.List.{list_any}
use Rattle.std.specs.List.Sorted.{IsPermutation}
use Rattle.std.proofs.lemmas.List.{take_more, take_all, take-append-le}
use Rattle.std.proofs.lemmas.List.Folds.{list_any-append}
use Rattle.std.proofs.lemmas.List.Sorted.{list_any-IsPermutation}
use Rattle.posix.specs.Common.{Line}
use Rattle.schedules.specs.Families.{Spots}
use Rattle.counting.specs.declared.ending.Ending.{Ending}
use Rattle.counting.specs.declared.ending.Endings.{Endings}
use Rattle.counting.specs.Patterns.{has_pattern}
use Rattle.counting.specs.Texts.{FindView, looked_at, saw, after_run}
use Rattle.counting.specs.Endings.{no_endings, with_ending}
use Rattle.counting.specs.Books.{BookView, empty_book, unseen, with_run}

or_more : (a b c : Bool) → ((a || b) || c) ≡ (a || (b || (c || false)))
or_more true b c = refl
or_more false true c = refl
or_more false false true = refl
or_more false false false = refl

saw_more : (lines : List Line) (l : Line) (f : FindView) → looked_at l.entry (saw lines f) ≡ saw (lines ++ l ∷ []) f
saw_more lines l f =
    let p : Line → Bool = λ x. has_pattern f.text x.entry in
    ap (λ b. record f { is_there = b })
    (or_more f.is_there (list_any p lines) (p l) ∙ ap (λ b. f.is_there || b) (sym (list_any-append p lines (l ∷ []))))

-- Over all texts.
each_saw_more : (lines : List Line) (l : Line) (finds : List FindView) → map (looked_at l.entry) (map (saw lines) finds) ≡ map (saw (lines ++ l ∷ [])) finds
each_saw_more lines l [] = refl
each_saw_more lines l (f ∷ fs) = ap₂ (λ x xs. x ∷ xs) (saw_more lines l f) (each_saw_more lines l fs)

pub all_saw_more : (lines : List Line) (i : ℕ) (l : Line) (finds now next : List FindView) → i < length lines → l ≡ get_or lines i l
    → now ≡ map (saw (take i lines)) finds → next ≡ map (looked_at l.entry) now → next ≡ map (saw (take (i + 1) lines)) finds
all_saw_more lines i l finds now next lt is before after =
    after ∙ ap (map (looked_at l.entry)) before ∙ each_saw_more (take i lines) l finds
    ∙ ap (λ xs. map (saw xs) finds) (ap (λ x. take i lines ++ x ∷ []) is ∙ sym (take_more lines i l lt))

pub none_seen : (finds : List FindView) → finds ≡ map (saw []) finds
none_seen [] = refl
none_seen (f ∷ fs) = ap₂ (λ x xs. x ∷ xs) (ap (λ b. record f { is_there = b }) (sym (or-false f.is_there))) (none_seen fs)

-- A part that was written back.
pub written : {X : Type 0} (n : ℕ) (new rest : List X) → length new ≡ n → take n (new ++ rest) ≡ new
written n new rest l = take-append-le n new rest (omega (arith, l)) ∙ take_all n new (omega (arith, l))

-- The order of the lines doesn't matter.
saw_sorted : (lines sorted : List Line) (finds : List FindView) → IsPermutation lines sorted → map (saw sorted) finds ≡ map (saw lines) finds
saw_sorted lines sorted [] p = refl
saw_sorted lines sorted (f ∷ fs) p =
    ap₂ (λ x xs. x ∷ xs)
    (ap (λ b. record f { is_there = f.is_there || b }) (sym (list_any-IsPermutation (λ (l : Line). has_pattern f.text l.entry) lines sorted p)))
    (saw_sorted lines sorted fs p)

-- ---- a book

pub book_with_run : (lines sorted : List Line) (ending : Ending) (ps : Spots) (b : BookView) (later : Endings) (next finds : List FindView) (total : ℕ) → IsPermutation lines sorted
    → later ≡ with_ending ending ps b.endings → next ≡ map (after_run ps) (map (saw sorted) b.finds) → total ≡ b.total + 1 → finds ≡ next
    → record { endings = later; finds = finds; total = total } ≡ with_run lines ending ps b
book_with_run lines sorted ending ps b later next finds total p ends finds_are one same =
    rw (ends, same, finds_are, one, saw_sorted lines sorted b.finds p) refl

pub unseen_texts : (texts : List (Bor (List ℕ))) → map (λ t. unseen t.now) texts ≡ map unseen (map (λ t. t.now) texts)
unseen_texts [] = refl
unseen_texts (t ∷ ts) = ap (λ fs. unseen t.now ∷ fs) (unseen_texts ts)

pub book_empty : (texts : List (List ℕ)) (e : Endings) (finds : List FindView) (total : ℕ) → e ≡ no_endings → finds ≡ map unseen texts → total ≡ 0
    → record { endings = e; finds = finds; total = total } ≡ empty_book texts
book_empty texts e finds total ends finds_are none = rw (ends, finds_are, none) refl
