-- Proofs of how far a text is a trace, line by line.
use Rattle.std.proofs.Common.{◌≡◌, ℕ, ◌+◌, ◌==◌, true, false, List, [], ◌∷◌, ◌++◌, length, inl, inr, refl, ap, sym, ◌∙◌, arith, append_assoc, append-nil, length-append, Bool, Option, Some, None, Bor, codes, option_map}
use Rattle.std.proofs.lemmas.Bool.{eqb-true}
use Rattle.std.proofs.lemmas.Grind.{flat_map-append}
use Rattle.std.proofs.lemmas.List.Folds.{list_all-append}
use Rattle.clap.specs.Words.{Row, Text, first_of, is_simple_and_free}
use Rattle.inputs.specs.Words.{is_used}
use Rattle.laws.specs.TraceLines.{Says, is_line}
use Rattle.posix.specs.Common.{Line, print, print_line}
use Rattle.trace.specs.Lines.{IsCut, is_one_line}
use Rattle.explaining.specs.Drawings.{BeginsOther, IsFirstOther, IsTrace, asked_in, command_line}

-- The lines before the line with this number are trace lines, and the rest of the text follows them.
pub record IsReadTo (text : List ℕ) (number : ℕ) (rest : List ℕ) : Type 0 where
  pub before : List ℕ
  pub is : text ≡ before ++ rest
  pub trace : IsTrace before
  pub counted : number ≡ length trace.lines + 1

pub none_read : (text : List ℕ) → IsReadTo text 1 text
none_read text = record { before = []; is = refl; trace = record { lines = []; is = refl; forms = refl }; counted = refl }

-- one more line is read
unfoldable one_longer : (before line : List ℕ) (l : Line) (t : IsTrace before) → Says line l → IsTrace (before ++ (line ++ 10 ∷ []))
one_longer before line l t says = record {
  lines = t.lines ++ l ∷ [];
  is =
      ap (λ (x : List ℕ). x ++ (line ++ 10 ∷ [])) t.is
      ∙ ap (λ (x : List ℕ). print t.lines ++ x) (says.0 ∙ sym (append-nil (print_line l)))
      ∙ sym (flat_map-append print_line t.lines (l ∷ []));
  forms = list_all-append is_line t.lines (l ∷ []) ∙ rw (t.forms, says.1) refl;
}

pub more_read : (text : List ℕ) (number : ℕ) (rest line more : List ℕ) (l : Line) → IsReadTo text number rest → IsCut rest line more → Says line l
    → IsReadTo text (number + 1) more
unfolding one_longer
more_read text number rest line more l h cut says = record {
  before = h.before ++ (line ++ 10 ∷ []);
  is =
      h.is
      ∙ ap (λ (x : List ℕ). h.before ++ x) (cut.is ∙ sym (append_assoc line (10 ∷ []) more))
      ∙ sym (append_assoc h.before (line ++ 10 ∷ []) more);
  trace = one_longer h.before line l h.trace says;
  counted = omega (arith, h.counted, length-append h.trace.lines (l ∷ []));
}

-- all lines are read
pub all_read : (text : List ℕ) (number : ℕ) (rest : List ℕ) → IsReadTo text number rest → (length rest == 0) ≡ true → IsTrace text
all_read text number [] h none = record { lines = h.trace.lines; is = h.is ∙ append-nil h.before ∙ h.trace.is; forms = h.trace.forms }
all_read text number (b ∷ bs) h none = absurd (omega (arith, eqb-true (length (b ∷ bs)) 0 none))

pub other_read : (text : List ℕ) (number : ℕ) (rest : List ℕ) → IsReadTo text number rest → BeginsOther rest → IsFirstOther text number
other_read text number rest h other = record { before = h.before; rest = rest; is = h.is; trace = h.trace; counted = h.counted; other = other }

pub begins_other : (rest line more : List ℕ) → IsCut rest line more → ((l : Line) → Says line l → ⊥) → BeginsOther rest
begins_other rest line more cut none = inl (line, more, cut, none)

pub some_left : (rest : List ℕ) → (length rest == 0) ≡ false → is_one_line rest ≡ true → BeginsOther rest
some_left [] h one = absurd (cc)
some_left (b ∷ bs) h one = inr ((λ e. cc), one)

-- ---- requests

pub is_simple : is_simple_and_free command_line ≡ true
is_simple = refl

pub asks : (rows : List Row) (value : Option (Bor Text)) (name : Bor Text) (used : Bool) → option_map (λ v. v.now) value ≡ first_of (codes "trace") rows → value ≡ Some name
    → used ≡ is_used (codes "svg") rows → asked_in rows ≡ Some (name.now, used)
asks rows value name used of is same = rw (sym of, is, same) refl

pub asks_nothing : (rows : List Row) (value : Option (Bor Text)) → option_map (λ v. v.now) value ≡ first_of (codes "trace") rows → value ≡ None → asked_in rows ≡ None
asks_nothing rows value of is = rw (sym of, is) refl
