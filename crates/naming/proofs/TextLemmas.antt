-- Texts of which some lines were replaced.
use Rattle.std.proofs.Common.{◌≡◌, ℕ, Bool, true, false, List, [], ◌∷◌, ◌++◌, ◌==◌, not, ap, refl, sym, ◌∙◌, append_assoc, append-nil, arith, length, length-append}
use Rattle.std.specs.Prelude.{All, flat_map, ◌||◌}
use Rattle.std.proofs.lemmas.Bool.{and_parts, false≢true, or_parts}
use Rattle.std.proofs.lemmas.Grind.{flat_map-append}
use Rattle.std.proofs.lemmas.List.{nil_from_length}
use Rattle.std.proofs.lemmas.List.Elements.{All-nil, All-push}
use Rattle.trace.specs.Lines.{is_one_line}
use Rattle.wording.specs.Proses.{ProseView}
use Rattle.naming.specs.Lines.{IsOneLine, IsOneLineOutcome, IsToldIf, said}
use Rattle.naming.specs.declared.line.Outcome.{Outcome}
use Rattle.naming.specs.declared.line.Outcome.TheVariants.{Same, Named, Refused}
use Rattle.naming.specs.Texts.{AddsLine, IsNamed, IsNamedLine, NamedLine, is_refused, named_from, named_text, refused_from, renamed}

-- ---- one line

-- A line replaces a line, and the messages about it were added.
record StandsFor (line told told_then : List ℕ) : Type 0 where
  pub more : List ℕ
  pub told_is : told_then ≡ told ++ more
  pub is_named : IsNamedLine (record { line = line; named = (renamed line).text; told = more })

stands_by : (line : List ℕ) (told told_then : ProseView) (is_refused : Bool) → (renamed line).is_refused ≡ is_refused → IsOneLine line → IsOneLine (renamed line).text
    → IsToldIf is_refused told told_then → told_then.is_whole ≡ true → (told.is_whole ≡ true) × StandsFor line told.text told_then.text
stands_by line told told_then false refused given one same whole = (
  ap (λ (p : ProseView). p.is_whole) (sym same) ∙ whole,
  record {
    more = [];
    told_is = ap (λ (p : ProseView). p.text) same ∙ sym (append-nil told.text);
    is_named = record { given = given; one_line = one; is = refl; quiet = λ _. refl; loud = λ _. refused };
  },
)
stands_by line told told_then true refused given one (adds, grown) whole =
    let (before, (byte, more, is)) = adds whole in (
      before,
      record {
        more = byte ∷ more;
        told_is = is;
        is_named = record {
          given = given;
          one_line = one;
          is = refl;
          quiet = λ none. absurd (false≢true (sym none ∙ refused));
          loud = λ none. absurd (omega (arith, ap length none));
        };
      },
    )

stands_for : (line text text_then : List ℕ) (told told_then : ProseView) → AddsLine line text text_then told told_then → told_then.is_whole ≡ true
    → (told.is_whole ≡ true) × StandsFor line told.text told_then.text
stands_for line text text_then told told_then added whole = stands_by line told told_then (renamed line).is_refused refl added.given added.one_line added.told_is whole

both_none : (xs ys : List ℕ) → xs ++ ys ≡ [] → (xs ≡ []) × (ys ≡ [])
both_none xs ys none = (nil_from_length xs (omega (arith, ap length none, length-append xs ys)), nil_from_length ys (omega (arith, ap length none, length-append xs ys)))

pub said_one_line : (line : List ℕ) (o : Outcome) → IsOneLine line → IsOneLineOutcome o → IsOneLine (said line o).text
said_one_line line Same one h = one
said_one_line line (Named text) one h = h
said_one_line line Refused one h = one

-- ---- the first line of a text

other : (b : Bool) → not b ≡ true → b ≡ false
other true h = sym h
other false h = refl

named_cut : (begun line more : List ℕ) → is_one_line line ≡ true → named_from begun (line ++ 10 ∷ more) ≡ (renamed (begun ++ line)).text ++ 10 ∷ named_from [] more
named_cut begun [] more one = rw (append-nil begun) refl
named_cut begun (b ∷ bs) more one =
    let p = and_parts (not (b == 10)) (is_one_line bs) one in
    let step : named_from begun (b ∷ (bs ++ 10 ∷ more)) ≡ named_from (begun ++ b ∷ []) (bs ++ 10 ∷ more) = rw (other (b == 10) p.0) refl in
    step ∙ named_cut (begun ++ b ∷ []) bs more p.1 ∙ ap (λ (x : List ℕ). (renamed x).text ++ 10 ∷ named_from [] more) (append_assoc begun (b ∷ []) bs)

named_last : (begun line : List ℕ) → is_one_line line ≡ true → named_from begun line ≡ (renamed (begun ++ line)).text
named_last begun [] one = rw (append-nil begun) refl
named_last begun (b ∷ bs) one =
    let p = and_parts (not (b == 10)) (is_one_line bs) one in
    let step : named_from begun (b ∷ bs) ≡ named_from (begun ++ b ∷ []) bs = rw (other (b == 10) p.0) refl in
    step ∙ named_last (begun ++ b ∷ []) bs p.1 ∙ ap (λ (x : List ℕ). (renamed x).text) (append_assoc begun (b ∷ []) bs)

refused_cut : (begun line more : List ℕ) → is_one_line line ≡ true → refused_from begun (line ++ 10 ∷ more) ≡ ((renamed (begun ++ line)).is_refused || refused_from [] more)
refused_cut begun [] more one = rw (append-nil begun) refl
refused_cut begun (b ∷ bs) more one =
    let p = and_parts (not (b == 10)) (is_one_line bs) one in
    let step : refused_from begun (b ∷ (bs ++ 10 ∷ more)) ≡ refused_from (begun ++ b ∷ []) (bs ++ 10 ∷ more) = rw (other (b == 10) p.0) refl in
    step ∙ refused_cut (begun ++ b ∷ []) bs more p.1 ∙ ap (λ (x : List ℕ). (renamed x).is_refused || refused_from [] more) (append_assoc begun (b ∷ []) bs)

refused_last : (begun line : List ℕ) → is_one_line line ≡ true → refused_from begun line ≡ (renamed (begun ++ line)).is_refused
refused_last begun [] one = rw (append-nil begun) refl
refused_last begun (b ∷ bs) one =
    let p = and_parts (not (b == 10)) (is_one_line bs) one in
    let step : refused_from begun (b ∷ bs) ≡ refused_from (begun ++ b ∷ []) bs = rw (other (b == 10) p.0) refl in
    step ∙ refused_last (begun ++ b ∷ []) bs p.1 ∙ ap (λ (x : List ℕ). (renamed x).is_refused) (append_assoc begun (b ∷ []) bs)

-- ---- lines of a text

abbrev pub given : NamedLine → List ℕ
given l = l.line ++ 10 ∷ []

abbrev pub named_as : NamedLine → List ℕ
named_as l = l.named ++ 10 ∷ []

abbrev pub told_of : NamedLine → List ℕ
told_of l = l.told

-- the lines of a text before the rest of it
pub record HasNamed (text rest named told : List ℕ) : Type 0 where
  pub lines : List NamedLine
  pub each : All IsNamedLine lines
  pub text_is : text ≡ flat_map given lines ++ rest
  pub named_is : named ≡ flat_map named_as lines
  pub told_is : told ≡ flat_map told_of lines
  pub all : named ++ named_text rest ≡ named_text text
  pub quiet : is_refused text ≡ false → (is_refused rest ≡ false) × (told ≡ [])
  pub loud : told ≡ [] → is_refused rest ≡ false → is_refused text ≡ false

-- no lines
pub has_named_none : (text named told : List ℕ) → named ≡ [] → told ≡ [] → HasNamed text text named told
has_named_none text named told none quiet =
    record { lines = []; each = All-nil IsNamedLine; text_is = refl; named_is = none; told_is = quiet; all = ap (λ (x : List ℕ). x ++ named_text text) none; quiet = λ fine. (fine, quiet); loud = λ _ fine. fine }

flat_more : (f : NamedLine → List ℕ) (ls : List NamedLine) (l : NamedLine) → flat_map f (ls ++ l ∷ []) ≡ flat_map f ls ++ f l
flat_more f ls l = flat_map-append f ls (l ∷ []) ∙ ap (λ (x : List ℕ). flat_map f ls ++ x) (append-nil (f l))

cut : (front line more : List ℕ) → front ++ (line ++ 10 ∷ more) ≡ (front ++ (line ++ 10 ∷ [])) ++ more
cut front line more =
    sym (append_assoc front (line ++ 10 ∷ []) more ∙ ap (λ (x : List ℕ). front ++ x) (append_assoc line (10 ∷ []) more))

neither : (a b : Bool) → a ≡ false → b ≡ false → (a || b) ≡ false
neither a b h k = rw (h, k) refl

-- one more line
with_line : (text rest line more named ended told told_then : List ℕ) → HasNamed text rest named told → rest ≡ line ++ 10 ∷ more → is_one_line line ≡ true
    → StandsFor line told told_then → ended ≡ (named ++ (renamed line).text) ++ 10 ∷ [] → HasNamed text more ended told_then
unfolding named_text is_refused
with_line text rest line more named ended told told_then h e one put ended_is =
    let out : List ℕ = (renamed line).text in
    let l : NamedLine = record { line = line; named = out; told = put.more } in
    let rest_is : named_text rest ≡ out ++ 10 ∷ named_text more = ap named_text e ∙ named_cut [] line more one in
    let refused_is : is_refused rest ≡ ((renamed line).is_refused || is_refused more) = ap is_refused e ∙ refused_cut [] line more one in
    record {
      lines = h.lines ++ l ∷ [];
      each = All-push IsNamedLine h.lines l h.each put.is_named;
      text_is = h.text_is ∙ ap (λ (x : List ℕ). flat_map given h.lines ++ x) e ∙ cut (flat_map given h.lines) line more
          ∙ sym (ap (λ (x : List ℕ). x ++ more) (flat_more given h.lines l));
      named_is = ended_is ∙ ap (λ (x : List ℕ). (x ++ out) ++ 10 ∷ []) h.named_is ∙ append_assoc (flat_map named_as h.lines) out (10 ∷ [])
          ∙ sym (flat_more named_as h.lines l);
      told_is = put.told_is ∙ ap (λ (x : List ℕ). x ++ put.more) h.told_is ∙ sym (flat_more told_of h.lines l);
      all = ap (λ (x : List ℕ). x ++ named_text more) ended_is ∙ append_assoc (named ++ out) (10 ∷ []) (named_text more) ∙ append_assoc named out (10 ∷ named_text more)
          ∙ ap (λ (x : List ℕ). named ++ x) (sym rest_is) ∙ h.all;
      quiet = λ fine.
          let q = h.quiet fine in
          let two = or_parts (renamed line).is_refused (is_refused more) (sym refused_is ∙ q.0) in
          (two.1, put.told_is ∙ ap (λ (x : List ℕ). told ++ x) (put.is_named.quiet two.0) ∙ append-nil told ∙ q.1);
      loud = λ none fine.
          let two = both_none told put.more (sym put.told_is ∙ none) in
          h.loud two.0 (refused_is ∙ neither (renamed line).is_refused (is_refused more) (put.is_named.loud two.1) fine);
    }

-- the last line
with_last : (text rest named named_then told told_then : List ℕ) → HasNamed text rest named told → is_one_line rest ≡ true → StandsFor rest told told_then
    → named_then ≡ named ++ (renamed rest).text → IsNamed text named_then told_then
unfolding named_text is_refused
with_last text rest named named_then told told_then h one put named_then_is = record {
  is = named_then_is ∙ ap (λ (x : List ℕ). named ++ x) (sym (named_last [] rest one)) ∙ h.all;
  quiet = λ fine.
      let q = h.quiet fine in
      put.told_is ∙ ap (λ (x : List ℕ). told ++ x) (put.is_named.quiet (sym (refused_last [] rest one) ∙ q.0)) ∙ append-nil told ∙ q.1;
  loud = λ none.
      let two = both_none told put.more (sym put.told_is ∙ none) in
      h.loud two.0 (refused_last [] rest one ∙ put.is_named.loud two.1);
  lines = h.lines;
  last = record { line = rest; named = (renamed rest).text; told = put.more };
  each = h.each;
  last_line = put.is_named;
  text_is = h.text_is;
  named_is = named_then_is ∙ ap (λ (x : List ℕ). x ++ (renamed rest).text) h.named_is;
  told_is = put.told_is ∙ ap (λ (x : List ℕ). x ++ put.more) h.told_is;
}

-- ---- lines of a text, unless the messages lack a piece

abbrev pub HasNamedIf : List ℕ → List ℕ → List ℕ → ProseView → Type 0
HasNamedIf text rest named told = told.is_whole ≡ true → HasNamed text rest named told.text

pub has_named_more : (text rest line more named named_then ended : List ℕ) (told told_then : ProseView) → HasNamedIf text rest named told → rest ≡ line ++ 10 ∷ more → is_one_line line ≡ true
    → AddsLine line named named_then told told_then → ended ≡ named_then ++ 10 ∷ [] → HasNamedIf text more ended told_then
has_named_more text rest line more named named_then ended told told_then h e one added feed = λ whole.
    let put = stands_for line named named_then told told_then added whole in
    with_line text rest line more named ended told.text told_then.text (h put.0) e one put.1 (feed ∙ ap (λ (x : List ℕ). x ++ 10 ∷ []) added.text_is)

pub has_named_all : (text rest named named_then : List ℕ) (told told_then : ProseView) → HasNamedIf text rest named told → is_one_line rest ≡ true → AddsLine rest named named_then told told_then
    → told_then.is_whole ≡ true → IsNamed text named_then told_then.text
has_named_all text rest named named_then told told_then h one added whole =
    let put = stands_for rest named named_then told told_then added whole in
    with_last text rest named named_then told.text told_then.text (h put.0) one put.1 added.text_is
