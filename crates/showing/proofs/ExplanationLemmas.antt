-- A trace is put line by line, with explanations.
use Rattle.std.proofs.Common.{◌≡◌, ℕ, ◌==◌, true, false, List, [], ◌∷◌, ◌++◌, flat_map, inl, inr, refl, ap, sym, ◌∙◌, subst, append_assoc, Result, Ok, Err}
use Rattle.std.specs.Prelude.{IsErrAnd}
use Rattle.std.specs.List.{AllByRecursion}
use Rattle.std.proofs.KnownBytes.{Appends-nil, Appends-trans}
use Rattle.std.proofs.lemmas.Bool.{cases_Bool, eqb-true}
use Rattle.std.specs.Io.KnownBytes.{Appends}
use Rattle.trace.specs.Sinks.{BreaksOff, Gathers, Seen, TakesAll}
use Rattle.trace.proofs.SinkLemmas.{break_on, gathers_break, gathers_then}
use Rattle.trace.specs.Lines.{IsCut, is_one_line}
use Rattle.showing.specs.Explanations.{AreOneLine, Explains, IsBegun, IsExplained, OfExplained, Stops, Told, told_line}
use Rattle.inputs.specs.declared.failure.FileFailure.{FileFailure}
use Rattle.inputs.specs.declared.failure.FileFailure.TheVariants.{Usage, Unread, Memory, Write}

-- ---- texts

-- what follows the last line feed has no explanation
pub last_line : (last : List ℕ) → is_one_line last ≡ true → IsExplained last last
last_line last one = record { lines = []; last = last; trace_is = refl; text_is = refl; one = tt; last_one = one }

-- one more line and its explanation, before the others
pub one_more : (line words rest text : List ℕ) → is_one_line line ≡ true → is_one_line words ≡ true → IsExplained rest text
    → IsExplained (line ++ 10 ∷ rest) (told_line line words ++ text)
one_more line words rest text one clean e =
    let plain : List ℕ = flat_map (λ t. t.line ++ 10 ∷ []) e.lines in
    let told : List ℕ = flat_map (λ t. told_line t.line t.words) e.lines in record {
      lines = record { line = line; words = words } ∷ e.lines;
      last = e.last;
      trace_is = ap (λ (x : List ℕ). line ++ 10 ∷ x) e.trace_is ∙ sym (append_assoc (line ++ 10 ∷ []) plain e.last ∙ append_assoc line (10 ∷ []) (plain ++ e.last));
      text_is = ap (λ (x : List ℕ). told_line line words ++ x) e.text_is ∙ sym (append_assoc (told_line line words) told e.last);
      one = ((one, clean), e.one);
      last_one = e.last_one;
    }

-- one more byte, which is no line feed, before the first line
longer : (b : ℕ) (lines : List Told) (last rest text : List ℕ) → (b == 10) ≡ false → rest ≡ flat_map (λ t. t.line ++ 10 ∷ []) lines ++ last
    → text ≡ flat_map (λ t. told_line t.line t.words) lines ++ last → AllByRecursion AreOneLine lines → is_one_line last ≡ true → IsExplained (b ∷ rest) (b ∷ text)
longer b [] last rest text h trace_is text_is one last_one = record {
  lines = [];
  last = b ∷ last;
  trace_is = ap (λ (x : List ℕ). b ∷ x) trace_is;
  text_is = ap (λ (x : List ℕ). b ∷ x) text_is;
  one = tt;
  last_one = rw (h, last_one) refl;
}
longer b (t ∷ ts) last rest text h trace_is text_is one last_one = record {
  lines = record { line = b ∷ t.line; words = t.words } ∷ ts;
  last = last;
  trace_is = ap (λ (x : List ℕ). b ∷ x) trace_is;
  text_is = ap (λ (x : List ℕ). b ∷ x) text_is;
  one = ((rw (h, one.0.0) refl, one.0.1), one.1);
  last_one = last_one;
}

-- a trace without explanations
pub as_it_is : (trace : List ℕ) → IsExplained trace trace
as_it_is [] = last_line [] refl
as_it_is (b ∷ bs) = let e = as_it_is bs in elim (cases_Bool (b == 10)) [
  | inl h ↦ subst (λ (c : ℕ). IsExplained (c ∷ bs) (c ∷ bs)) (sym (eqb-true b 10 h)) (one_more [] [] bs bs refl refl e)
  | inr h ↦ longer b e.lines e.last bs bs h e.trace_is e.text_is e.one e.last_one
]

-- ---- what is put

-- The text has the lines before the rest, with explanations. The output took a beginning of the text, and the other
-- bytes are in the buffer.
pub record HasTold (before : Seen) (trace rest : List ℕ) (now : Seen) (waiting : List ℕ) : Type 0 where
  pub text : List ℕ
  pub goes_on : (more : List ℕ) → IsExplained rest more → IsExplained trace (text ++ more)
  pub gathers : Gathers before [] now waiting text

pub nothing_told : (s : Seen) (trace : List ℕ) → HasTold s trace trace s []
nothing_told s trace = record {
  text = [];
  goes_on = λ more e. e;
  gathers = record { front = []; split = refl; taken = Appends-nil s.taken; no_failure = refl };
}

-- the text goes on with a line, its explanation, and more
told_on : (before now : Seen) (trace rest line after words waiting more : List ℕ) (h : HasTold before trace rest now waiting) → IsCut rest line after
    → is_one_line words ≡ true → IsExplained after more → IsExplained trace (h.text ++ (told_line line words ++ more))
told_on before now trace rest line after words waiting more h cut clean e =
    h.goes_on (told_line line words ++ more) (subst (λ (r : List ℕ). IsExplained r (told_line line words ++ more)) (sym cut.is) (one_more line words after more cut.one clean e))

-- one more line was added
pub told_more : (before now next : Seen) (trace rest line after waiting wait said : List ℕ) → HasTold before trace rest now waiting → IsCut rest line after
    → is_one_line said ≡ true → Gathers now waiting next wait (told_line line said) → HasTold before trace after next wait
told_more before now next trace rest line after waiting wait said h cut clean g = record {
  text = h.text ++ told_line line said;
  goes_on = λ more e.
      subst (IsExplained trace) (sym (append_assoc h.text (told_line line said) more)) (told_on before now trace rest line after said waiting more h cut clean e);
  gathers = gathers_then before now next [] waiting wait h.text (told_line line said) h.gathers g;
}

-- the buffer is put, and what follows the last line feed
pub told_all : (before now next : Seen) (trace rest waiting : List ℕ) → HasTold before trace rest now waiting → is_one_line rest ≡ true
    → TakesAll now next (waiting ++ rest) → OfExplained trace (TakesAll before next)
told_all before now next trace rest waiting h one t =
    let whole : h.gathers.front ++ (waiting ++ rest) ≡ h.text ++ rest = sym (append_assoc h.gathers.front waiting rest) ∙ ap (λ (x : List ℕ). x ++ rest) (sym h.gathers.split) in (
      h.text ++ rest,
      h.goes_on rest (last_line rest one),
      record {
        taken = subst (Appends before.taken next.taken) whole (Appends-trans before.taken now.taken next.taken h.gathers.front (waiting ++ rest) h.gathers.taken t.taken);
        no_failure = t.no_failure ∙ h.gathers.no_failure;
      },
    )

-- a put of these bytes fails
pub told_in_part : (before now next : Seen) (trace rest waiting : List ℕ) → HasTold before trace rest now waiting → is_one_line rest ≡ true
    → BreaksOff now next (waiting ++ rest) → OfExplained trace (BreaksOff before next)
told_in_part before now next trace rest waiting h one b =
    (h.text ++ rest, h.goes_on rest (last_line rest one), gathers_break before now next [] waiting h.text rest h.gathers b)

-- no more is put
begun : (before now : Seen) (trace rest waiting : List ℕ) → HasTold before trace rest now waiting → OfExplained trace (IsBegun before now)
begun before now trace rest waiting h = (
  h.text ++ rest,
  h.goes_on rest (as_it_is rest),
  record {
    front = h.gathers.front;
    rest = waiting ++ rest;
    split = ap (λ (x : List ℕ). x ++ rest) h.gathers.split ∙ append_assoc h.gathers.front waiting rest;
    taken = h.gathers.taken;
    no_failure = h.gathers.no_failure;
  },
)

-- a line could not be added
pub told_no_more : {S : Type 0} (seen : S → Seen) (before : Seen) (old new : S) (trace rest line after waiting said : List ℕ) (why : FileFailure)
    → HasTold before trace rest (seen old) waiting → IsCut rest line after → is_one_line said ≡ true
    → Stops why old new (seen old) (seen new) (waiting ++ told_line line said) → Explains before (seen new) trace (Err why)
told_no_more seen before old new trace rest line after waiting said Usage h cut clean stops = absurd stops
told_no_more seen before old new trace rest line after waiting said (Unread other) h cut clean stops = absurd stops
told_no_more seen before old new trace rest line after waiting said Memory h cut clean stops =
    subst (λ s. OfExplained trace (IsBegun before (seen s))) (sym stops) (begun before (seen old) trace rest waiting h)
told_no_more seen before old new trace rest line after waiting said Write h cut clean stops = (
  h.text ++ (told_line line said ++ after),
  told_on before (seen old) trace rest line after said waiting after h cut clean (as_it_is after),
  subst (BreaksOff before (seen new)) (append_assoc h.text (told_line line said) after)
      (break_on before (seen new) (h.text ++ told_line line said) after (gathers_break before (seen old) (seen new) [] waiting h.text (told_line line said) h.gathers stops)),
)

-- nothing is put
pub untold : (s : Seen) (trace : List ℕ) → Explains s s trace (Err Memory)
untold s trace = begun s s trace trace [] (nothing_told s trace)

-- an error that `?` returns
pub explains_by : (r : Result (Unit {0}) FileFailure) (why : FileFailure) (before after : Seen) (trace : List ℕ) → IsErrAnd r (λ e. e ≡ why) → Explains before after trace (Err why)
    → Explains before after trace r
explains_by (Ok done) why before after trace is h = absurd is
explains_by (Err e) why before after trace is h = rw is h
