-- Whole traces, cut into their lines.
use Rattle.std.proofs.Common.{◌≡◌, ℕ, ◌+◌, ◌==◌, ◌≢◌, true, false, not, List, [], ◌∷◌, ◌++◌, length, flat_map, inl, inr, refl, ap, sym, ◌∙◌, subst, arith, append_assoc, append-nil, length-append, Err}
use Rattle.std.specs.List.{list_all}
use Rattle.std.proofs.lemmas.List.Folds.{list_all-append}
use Rattle.std.proofs.lemmas.Grind.{flat_map-append}
use Rattle.std.proofs.lemmas.Bool.{and_parts, eqb-true}
use Rattle.posix.specs.Common.{Line, print, print_line}
use Rattle.laws.specs.TraceLines.{Says, is_line}
use Rattle.laws.specs.Keeping.{kept_of}
use Rattle.laws.specs.Lives.{Laws}
use Rattle.laws.proofs.LawfulLemmas.{laws_first}
use Rattle.audit.specs.declared.fault.AuditFault.{AuditFault}
use Rattle.audit.specs.declared.fault.AuditFault.TheVariants.{NoLine}
use Rattle.audit.specs.Knowing.{AuditView, AllSay, AreLawful, IsAnswer, IsNewBirth, Knows}
use Rattle.trace.specs.Lines.{is_one_line, IsCut}
use Rattle.audit.specs.Texts.{IsFirstFault, IsLawful, IsLawfulBefore, IsNewBirthAt}
use Rattle.audit.proofs.PrintedLemmas.{text_of, text_one}

-- lines with their line feeds
abbrev ended : List ℕ → List ℕ
ended line = line ++ 10 ∷ []

abbrev pub joined : List (List ℕ) → List ℕ
joined lines = flat_map ended lines

-- ---- the rest

pub some_left : (text : List ℕ) → (length text == 0) ≡ false → text ≢ []
some_left [] h = λ e. cc
some_left (b ∷ bs) h = λ e. cc

pub none_left : (text : List ℕ) → (length text == 0) ≡ true → text ≡ []
none_left [] h = refl
none_left (b ∷ bs) h = absurd (omega (arith, eqb-true (length (b ∷ bs)) 0 h))

-- ---- a text is cut in one way

one_ends : (a y : List ℕ) → is_one_line (a ++ 10 ∷ y) ≡ true → ⊥
one_ends a y h = let p = sym (list_all-append (λ b. not (b == 10)) a (10 ∷ y)) ∙ h in let q = (and_parts (is_one_line a) false p).1 in cc

pub cut_once : (a b x y : List ℕ) → is_one_line a ≡ true → is_one_line b ≡ true → a ++ 10 ∷ x ≡ b ++ 10 ∷ y → (a ≡ b) × (x ≡ y)
cut_once [] [] x y one other h = (refl, cc)
cut_once [] (c ∷ cs) x y one other h = let feed : c ≡ 10 = cc in let no : false ≡ true = rw feed at other in absurd (cc)
cut_once (b ∷ bs) [] x y one other h = let feed : b ≡ 10 = cc in let no : false ≡ true = rw feed at one in absurd (cc)
cut_once (b ∷ bs) (c ∷ cs) x y one other h =
    let same : b ≡ c = cc in
    let rest : bs ++ 10 ∷ x ≡ cs ++ 10 ∷ y = cc in
    let p = cut_once bs cs x y (and_parts (not (b == 10)) (is_one_line bs) one).1 (and_parts (not (c == 10)) (is_one_line cs) other).1 rest in
    (rw (same, p.0) refl, p.1)

-- the first lines of a print are those that some texts say
record IsBegun (texts : List (List ℕ)) (rest : List ℕ) (lines : List Line) : Type 0 where
  pub first : List Line
  pub later : List Line
  pub is : lines ≡ first ++ later
  pub say : AllSay texts first
  pub follow : rest ≡ print later

begun : (texts : List (List ℕ)) (rest : List ℕ) (lines : List Line) → list_all is_one_line texts ≡ true → list_all is_line lines ≡ true → joined texts ++ rest ≡ print lines → IsBegun texts rest lines
begun [] rest lines one forms is = record { first = []; later = lines; is = refl; say = tt; follow = is }
begun (t ∷ ts) rest [] one forms is = absurd (nothing t (joined ts) rest is)
  where
    nothing : (t more rest : List ℕ) → (t ++ 10 ∷ []) ++ more ++ rest ≡ [] → ⊥
    nothing [] more rest is = cc
    nothing (b ∷ bs) more rest is = cc
begun (t ∷ ts) rest (l ∷ ls) one forms is =
    let p = and_parts (is_one_line t) (list_all is_one_line ts) one in
    let f = and_parts (is_line l) (list_all is_line ls) forms in
    let left : ((t ++ 10 ∷ []) ++ joined ts) ++ rest ≡ t ++ 10 ∷ (joined ts ++ rest) = append_assoc (t ++ 10 ∷ []) (joined ts) rest ∙ append_assoc t (10 ∷ []) (joined ts ++ rest) in
    let right : (text_of l ++ 10 ∷ []) ++ print ls ≡ text_of l ++ 10 ∷ print ls = append_assoc (text_of l) (10 ∷ []) (print ls) in
    let cut = cut_once t (text_of l) (joined ts ++ rest) (print ls) p.0 (text_one l) (sym left ∙ is ∙ right) in
    let r = begun ts rest ls p.1 f.1 cut.1 in
    record { first = l ∷ r.first; later = r.later; is = ap (λ (xs : List Line). l ∷ xs) r.is; say = ((ap ended cut.0, f.0), r.say); follow = r.follow }

-- ---- what texts say

pub said : (texts : List (List ℕ)) (lines : List Line) → AllSay texts lines → (joined texts ≡ print lines) × (list_all is_line lines ≡ true) × (length texts ≡ length lines)
said [] [] h = (refl, refl, refl)
said (t ∷ ts) (l ∷ ls) h =
    let s = said ts ls h.1 in
    (ap (λ (x : List ℕ). x ++ joined ts) h.0.0 ∙ ap (λ (x : List ℕ). print_line l ++ x) s.0, rw (h.0.1, s.1) refl, omega (arith, s.2))
said texts lines h = absurd h

-- ---- how far a text was read

-- Lines of a text were heard, one less than the number of the next, and this follows them.
pub record HasHeard (text : List ℕ) (number : ℕ) (rest : List ℕ) (audit : AuditView) : Type 0 where
  pub texts : List (List ℕ)
  pub knows : Knows texts audit
  pub one : list_all is_one_line texts ≡ true
  pub is : text ≡ joined texts ++ rest
  pub counted : number ≡ length texts + 1

-- with one line more
joined_more : (text : List ℕ) (texts : List (List ℕ)) (rest line later : List ℕ) → text ≡ joined texts ++ rest → IsCut rest line later → text ≡ joined (texts ++ line ∷ []) ++ later
joined_more text texts rest line later is cut =
    let one : joined (line ∷ []) ++ later ≡ line ++ 10 ∷ later = ap (λ (x : List ℕ). x ++ later) (append-nil (line ++ 10 ∷ [])) ∙ append_assoc line (10 ∷ []) later in
    let all : joined (texts ++ line ∷ []) ++ later ≡ joined texts ++ rest =
    ap (λ (x : List ℕ). x ++ later) (flat_map-append ended texts (line ∷ [])) ∙ append_assoc (joined texts) (joined (line ∷ [])) later
    ∙ ap (λ (x : List ℕ). joined texts ++ x) (one ∙ sym cut.is) in
    is ∙ sym all

one_more : (texts : List (List ℕ)) (line : List ℕ) → list_all is_one_line texts ≡ true → is_one_line line ≡ true → list_all is_one_line (texts ++ line ∷ []) ≡ true
one_more texts line all one = list_all-append is_one_line texts (line ∷ []) ∙ rw (all, one) refl

pub heard_more : (text : List ℕ) (number : ℕ) (rest line later : List ℕ) (a b : AuditView) → HasHeard text number rest a → IsCut rest line later
    → ((texts : List (List ℕ)) → Knows texts a → Knows (texts ++ line ∷ []) b) → HasHeard text (number + 1) later b
heard_more text number rest line later a b h cut hears = record {
  texts = h.texts ++ line ∷ [];
  knows = hears h.texts h.knows;
  one = one_more h.texts line h.one cut.one;
  is = joined_more text h.texts rest line later h.is cut;
  counted = omega (arith, h.counted, length-append h.texts (line ∷ []));
}

pub heard_all : (text : List ℕ) (number : ℕ) (a : AuditView) → HasHeard text number [] a → IsLawful text
heard_all text number a h =
    let s = said h.texts h.knows.lines h.knows.say in
    record { lines = h.knows.lines; is = h.is ∙ append-nil (joined h.texts) ∙ s.0; forms = s.1; laws = h.knows.laws }

unfoldable pub heard_before : (text : List ℕ) (number : ℕ) (rest : List ℕ) (a : AuditView) → HasHeard text number rest a → IsLawfulBefore text number
heard_before text number rest a h =
    let s = said h.texts h.knows.lines h.knows.say in
    record { lines = h.knows.lines; rest = rest; is = h.is ∙ ap (λ (x : List ℕ). x ++ rest) s.0; forms = s.1; laws = h.knows.laws; counted = omega (arith, h.counted, s.2) }

-- the next line is the birth of a process with a number that no process had before
pub new_birth : (text : List ℕ) (number : ℕ) (rest line later : List ℕ) (a : AuditView) → HasHeard text number rest a → IsCut rest line later
    → ((texts : List (List ℕ)) (k : Knows texts a) → (l : Line) × Says line l × IsNewBirth (kept_of k.lines) l) → IsNewBirthAt text number
unfolding heard_before
new_birth text number rest line later a h cut born =
    let b = born h.texts h.knows in
    record { before = heard_before text number rest a h; line = line; rest = later; cut = cut; said = b.0; says = b.1; born = b.2 }

-- ---- a text that is refused

-- a line that no lawful lines have
pub refused_line : (text : List ℕ) (number : ℕ) (rest line later : List ℕ) (a : AuditView) → HasHeard text number rest a → IsCut rest line later
    → ((texts : List (List ℕ)) → Knows texts a → AreLawful (texts ++ line ∷ []) → ⊥) → IsLawful text → ⊥
refused_line text number rest line later a h cut none lawful =
    let texts = h.texts ++ line ∷ [] in
    let r = begun texts later lawful.lines (one_more h.texts line h.one cut.one) lawful.forms (sym (joined_more text h.texts rest line later h.is cut) ∙ lawful.is) in
    none h.texts h.knows (record { lines = r.first; say = r.say; laws = laws_first r.first r.later (subst Laws r.is lawful.laws) })

pub first_line : (text : List ℕ) (number : ℕ) (rest line later : List ℕ) (a : AuditView) (f : AuditFault) → HasHeard text number rest a → IsCut rest line later
    → ((texts : List (List ℕ)) (k : Knows texts a) → IsAnswer k.lines line (Err f)) → ((texts : List (List ℕ)) → Knows texts a → AreLawful (texts ++ line ∷ []) → ⊥) → IsFirstFault text (record { line = number; fault = f })
unfolding heard_before
first_line text number rest line later a f h cut answer none = record {
  before = heard_before text number rest a h;
  faulty = inl (record { line = line; rest = later; cut = cut; answer = answer h.texts h.knows; refused = refused });
}
  where
    refused : (more : List ℕ) → IsLawful (print h.knows.lines ++ (line ++ 10 ∷ more)) → ⊥
    refused more =
        let again : HasHeard (print h.knows.lines ++ (line ++ 10 ∷ more)) number (line ++ 10 ∷ more) a = record {
          texts = h.texts;
          knows = h.knows;
          one = h.one;
          is = ap (λ (x : List ℕ). x ++ (line ++ 10 ∷ more)) (sym (said h.texts h.knows.lines h.knows.say).0);
          counted = h.counted;
        } in
        refused_line (print h.knows.lines ++ (line ++ 10 ∷ more)) number (line ++ 10 ∷ more) line more a again (record { is = refl; one = cut.one }) none

-- a line that has no line feed
unprinted : (rest : List ℕ) (lines : List Line) → rest ≢ [] → is_one_line rest ≡ true → rest ≡ print lines → ⊥
unprinted rest [] some one is = some is
unprinted rest (l ∷ ls) some one is =
    one_ends (text_of l) (print ls) (ap is_one_line (sym (append_assoc (text_of l) (10 ∷ []) (print ls)) ∙ sym is) ∙ one)

pub refused_rest : (text : List ℕ) (number : ℕ) (rest : List ℕ) (a : AuditView) → HasHeard text number rest a → rest ≢ [] → is_one_line rest ≡ true → IsLawful text → ⊥
refused_rest text number rest a h some one lawful =
    let r = begun h.texts rest lawful.lines h.one lawful.forms (sym h.is ∙ lawful.is) in
    unprinted rest r.later some one r.follow

pub first_rest : (text : List ℕ) (number : ℕ) (rest : List ℕ) (a : AuditView) → HasHeard text number rest a → rest ≢ [] → is_one_line rest ≡ true → IsFirstFault text (record { line = number; fault = NoLine })
unfolding heard_before
first_rest text number rest a h some one = record {
  before = heard_before text number rest a h;
  faulty = inr (record { some = some; one = one; is = refl });
}
