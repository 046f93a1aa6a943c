-- What an audit that knows some texts knows after one more.
use Rattle.std.proofs.Common.{◌≡◌, ℕ, true, false, List, [], ◌∷◌, ◌++◌, Some, None, is_none, ◌≢◌, inl, inr, refl, ap, sym, ◌∙◌, subst, Result, Ok, Err, OnOk}
use mathlib.Core.Path.{fun_ext}
use Rattle.posix.specs.Common.{Line}
use Rattle.laws.specs.TraceLines.{Says}
use Rattle.laws.specs.Lives.{Laws, laws, last_line}
use Rattle.laws.specs.Keeping.{Kept, Phase, kept_of, kept_after, last_number, phase_of, fault_of}
use Rattle.laws.proofs.KeptLemmas.{kept_more, last_where_more}
use Rattle.laws.proofs.TestLemmas.{tests_are_laws}
use Rattle.laws.proofs.LawfulLemmas.{laws_more, laws_at}
use Rattle.trace.proofs.EntryLemmas.{says_one}
use Rattle.audit.proofs.PassLemmas.{tested_other}
use Rattle.audit.specs.Knowing.{AuditView, kept_at, AllSay, AreLawful, Knows, Heard, IsRead, IsAnswer, IsNewBirth}
use Rattle.audit.specs.Faults.{number_of}
use Rattle.audit.specs.declared.fault.AuditFault.{AuditFault}
use Rattle.audit.specs.declared.fault.AuditFault.TheVariants.{NoLine, Memory}

-- ---- the lines that texts say

-- texts say one list of lines
pub all_one : (texts : List (List ℕ)) (ls ms : List Line) → AllSay texts ls → AllSay texts ms → ls ≡ ms
all_one [] [] [] a b = refl
all_one [] [] (m ∷ ms) a b = absurd b
all_one [] (l ∷ ls) ms a b = absurd a
all_one (text ∷ texts) [] ms a b = absurd a
all_one (text ∷ texts) (l ∷ ls) [] a b = absurd b
all_one (text ∷ texts) (l ∷ ls) (m ∷ ms) a b =
    ap (λ (x : Line). x ∷ ls) (says_one text l m a.0 b.0) ∙ ap (λ (xs : List Line). m ∷ xs) (all_one texts ls ms a.1 b.1)

pub all_more : (texts : List (List ℕ)) (lines : List Line) (text : List ℕ) (l : Line) → AllSay texts lines → Says text l → AllSay (texts ++ text ∷ []) (lines ++ l ∷ [])
all_more [] [] text l all says = (says, tt)
all_more (t ∷ ts) (x ∷ xs) text l all says = (all.0, all_more ts xs text l all.1 says)
all_more texts lines text l all says = absurd all

-- a list of lines that texts and one more say has one more
pub record IsOneMore (texts : List (List ℕ)) (text : List ℕ) (lines : List Line) : Type 0 where
  pub before : List Line
  pub it : Line
  pub is : lines ≡ before ++ it ∷ []
  pub say : AllSay texts before
  pub says : Says text it

pub all_split : (texts : List (List ℕ)) (text : List ℕ) (lines : List Line) → AllSay (texts ++ text ∷ []) lines → IsOneMore texts text lines
all_split [] text [] h = absurd h
all_split [] text (l ∷ []) h = record { before = []; it = l; is = refl; say = tt; says = h.0 }
all_split [] text (l ∷ m ∷ ms) h = absurd h.1
all_split (t ∷ ts) text [] h = absurd h
all_split (t ∷ ts) text (l ∷ ls) h =
    let r = all_split ts text ls h.1 in
    record { before = l ∷ r.before; it = r.it; is = ap (λ (xs : List Line). l ∷ xs) r.is; say = (h.0, r.say); says = r.says }

-- ---- tests

-- the tests by what an audit keeps are those by what the lines say
pub same_fault : (texts : List (List ℕ)) (a : AuditView) (k : Knows texts a) (l : Line)
    → fault_of (kept_at a.numbers) a.last a.phase l ≡ fault_of (kept_of k.lines) (last_number (last_line k.lines)) (phase_of (last_line k.lines)) l
same_fault texts a k l =
    ap (λ (f : ℕ → Kept). fault_of f a.last a.phase l) (fun_ext k.kept)
    ∙ ap (λ (n : ℕ). fault_of (kept_of k.lines) n a.phase l) k.last
    ∙ ap (λ (p : Phase). fault_of (kept_of k.lines) (last_number (last_line k.lines)) p l) k.phase

pub passes_laws : (texts : List (List ℕ)) (a : AuditView) (k : Knows texts a) (l : Line) → fault_of (kept_at a.numbers) a.last a.phase l ≡ None → laws k.lines l ≡ true
passes_laws texts a k l h =
    sym (tests_are_laws k.lines l) ∙ ap is_none (sym (same_fault texts a k l) ∙ h)

-- a line that passes
pub lawful_more : (texts : List (List ℕ)) (a : AuditView) (k : Knows texts a) (text : List ℕ) (l : Line) → Says text l → fault_of (kept_at a.numbers) a.last a.phase l ≡ None → AreLawful (texts ++ text ∷ [])
lawful_more texts a k text l says h = record {
  lines = k.lines ++ l ∷ [];
  say = all_more texts k.lines text l k.say says;
  laws = laws_more k.lines l k.laws (passes_laws texts a k l h);
}

pub knows_more : (texts : List (List ℕ)) (old new : AuditView) (k : Knows texts old) (text : List ℕ) (l : Line) → Says text l → fault_of (kept_at old.numbers) old.last old.phase l ≡ None → Heard l old new
    → Knows (texts ++ text ∷ []) new
knows_more texts old new k text l says h heard = record {
  lines = k.lines ++ l ∷ [];
  say = all_more texts k.lines text l k.say says;
  laws = laws_more k.lines l k.laws (passes_laws texts old k l h);
  kept = λ c. heard.kept c ∙ ap (λ (f : ℕ → Kept). kept_after f l.entry c) (fun_ext k.kept) ∙ sym (kept_more k.lines l c);
  last = heard.last ∙ sym (ap last_number (last_where_more (λ x. true) k.lines l));
  phase = heard.phase ∙ sym (ap phase_of (last_where_more (λ x. true) k.lines l));
  fault = heard.fault ∙ k.fault;
}

-- a line that a test refuses, and a text that says none, is said by no lawful lines
pub refused : (texts : List (List ℕ)) (a : AuditView) (k : Knows texts a) (text : List ℕ) (l : Line) (n : ℕ) → Says text l → fault_of (kept_at a.numbers) a.last a.phase l ≡ Some n → AreLawful (texts ++ text ∷ []) → ⊥
refused texts a k text l n says h lawful =
    let r = all_split texts text lawful.lines lawful.say in
    let lines : r.before ≡ k.lines = all_one texts r.before k.lines r.say k.say in
    let it : r.it ≡ l = says_one text r.it l r.says says in
    let holds : laws r.before r.it ≡ true = laws_at r.before r.it [] (subst Laws r.is lawful.laws) in
    let here : laws k.lines l ≡ true = ap (λ (xs : List Line). laws xs l) (sym lines) ∙ ap (laws r.before) (sym it) ∙ holds in
    let no : false ≡ true = ap is_none (sym h ∙ same_fault texts a k l) ∙ tests_are_laws k.lines l ∙ here in
    cc

pub unsaid : (texts : List (List ℕ)) (text : List ℕ) → ((l : Line) → Says text l → ⊥) → AreLawful (texts ++ text ∷ []) → ⊥
unsaid texts text none lawful = let r = all_split texts text lawful.lines lawful.say in none r.it r.says

-- ---- a text that was read

pub ok_read : (text : List ℕ) (r : Result (Unit {0}) AuditFault) (old new : AuditView) → IsRead text r old new → OnOk r ((texts : List (List ℕ)) → Knows texts old → Knows (texts ++ text ∷ []) new)
ok_read text (Ok x) old new h = λ texts k. elim h.read [
  | inl d ↦ knows_more texts old new k text d.0 d.1 (sym d.2) d.3
  | inr n ↦ let no : Ok x ≡ Err NoLine = n.1 in absurd (cc)
]
ok_read text (Err f) old new h = tt

pub memory_read : (text : List ℕ) (old new : AuditView) → IsRead text (Err Memory) old new → (texts : List (List ℕ)) → Knows texts old → AreLawful (texts ++ text ∷ [])
memory_read text old new h texts k = elim h.read [
  | inl d ↦ lawful_more texts old k text d.0 d.1 (sym d.2)
  | inr n ↦ let no : Err Memory ≡ Err NoLine = n.1 in absurd (cc)
]

pub new_read : (text : List ℕ) (old new : AuditView) → IsRead text (Err Memory) old new → (texts : List (List ℕ)) → (k : Knows texts old) → (l : Line) × Says text l × IsNewBirth (kept_of k.lines) l
new_read text old new h texts k = elim h.read [
  | inl d ↦ (d.0, d.1, subst (λ f. IsNewBirth f d.0) (fun_ext k.kept) (d.4 refl))
  | inr n ↦ let no : Err Memory ≡ Err NoLine = n.1 in absurd (cc)
]

pub refused_read : (text : List ℕ) (f : AuditFault) (old new : AuditView) → f ≢ Memory → IsRead text (Err f) old new → (texts : List (List ℕ)) → Knows texts old → AreLawful (texts ++ text ∷ []) → ⊥
refused_read text f old new other h texts k = elim h.read [
  | inl d ↦ refused texts old k text d.0 (number_of f) d.1 (sym d.2 ∙ tested_other f other)
  | inr n ↦ unsaid texts text n.0
]

pub first_read : (text : List ℕ) (r : Result (Unit {0}) AuditFault) (old new : AuditView) → IsRead text r old new → (texts : List (List ℕ)) → (k : Knows texts old) → IsAnswer k.lines text r
first_read text r old new h texts k = record {
  said = λ l says. elim h.read [
    | inl d ↦ d.2 ∙ ap (fault_of (kept_at old.numbers) old.last old.phase) (says_one text d.0 l d.1 says) ∙ same_fault texts old k l
    | inr n ↦ absurd (n.0 l says)
  ];
  unsaid = λ none. elim h.read [
    | inl d ↦ absurd (none d.0 d.1)
    | inr n ↦ n.1
  ];
}
