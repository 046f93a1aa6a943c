-- The events of words.
use Rattle.std.proofs.Common.{◌≡◌, ◌⊎◌, ◌∙◌, ℕ, zero, suc, ◌+◌, ◌<◌, Bool, true, List, [], ◌∷◌, ◌++◌, length, map, take, get_or, Option, Some, None, refl, ap, sym, arith, inl, inr, Bor, Result, Ok, Err, MatchResult}
use Rattle.std.specs.Prelude.{IsErrAnd, if◌then◌else◌, option_and_then, option_map}
use Rattle.std.proofs.lemmas.List.{map-append, take_more}
use Rattle.posix.specs.declared.event.Event.{Event}
use Rattle.clap.specs.Words.{Text}
use Rattle.text.specs.EventTexts.{event_text}
use Rattle.exploring.specs.declared.serving.Failure.{Failure}
use Rattle.exploring.specs.Serving.{status_of}
use Rattle.exploring.specs.Words.{loose_asked, only}

with_first : (first : Option Event) (rest : Option (List Event)) → first ≡ None → option_and_then (λ event. option_map (λ events. event ∷ events) rest) first ≡ None
with_first first rest none = rw none refl

with_rest : (first : Option Event) (rest : Option (List Event)) → rest ≡ None → option_and_then (λ event. option_map (λ events. event ∷ events) rest) first ≡ None
with_rest None rest none = refl
with_rest (Some event) rest none = rw none refl

-- If one word isn't an event, the words aren't events.
pub no_loose : (consoles : ℕ) (words : List (Bor Text)) (i : ℕ) (d : Bor Text) → i < length words → only (event_text consoles (get_or words i d).now) ≡ None
    → loose_asked consoles (map (λ w. w.now) words) ≡ None
no_loose consoles [] i d within none = absurd (omega (arith, within))
no_loose consoles (w ∷ words) zero d within none = with_first (only (event_text consoles w.now)) (loose_asked consoles (map (λ v. v.now) words)) none
no_loose consoles (w ∷ words) (suc i) d within none =
    with_rest (only (event_text consoles w.now)) (loose_asked consoles (map (λ v. v.now) words)) (no_loose consoles words i d (omega (arith, within)) none)

behind : (first last : Option Event) (rest more : Option (List Event)) (event : Event) (loose : List Event) → last ≡ Some event
    → ((events : List Event) → rest ≡ Some events → more ≡ Some (events ++ event ∷ [])) → option_and_then (λ f. option_map (λ events. f ∷ events) rest) first ≡ Some loose
    → option_and_then (λ f. option_map (λ events. f ∷ events) more) first ≡ Some (loose ++ event ∷ [])
behind None last rest more event loose is grows h = let no : None ≡ Some loose = h in absurd (cc)
behind (Some f) last None more event loose is grows h = let no : None ≡ Some loose = h in absurd (cc)
behind (Some f) last (Some events) more event loose is grows h =
    ap (option_map (λ xs. f ∷ xs)) (grows events refl) ∙ ap (option_map (λ xs. xs ++ event ∷ [])) h

one_more : (consoles : ℕ) (words : List Text) (word : Text) (loose : List Event) (event : Event) → loose_asked consoles words ≡ Some loose → only (event_text consoles word) ≡ Some event
    → loose_asked consoles (words ++ word ∷ []) ≡ Some (loose ++ event ∷ [])
one_more consoles [] word loose event h is = rw is (ap (option_map (λ xs. xs ++ event ∷ [])) h)
one_more consoles (w ∷ words) word loose event h is =
    behind (only (event_text consoles w)) (only (event_text consoles word)) (loose_asked consoles words) (loose_asked consoles (words ++ word ∷ [])) event loose is
    (λ events so_far. one_more consoles words word events event so_far is) h

-- With the event of one more word.
pub loose_more : (consoles : ℕ) (words : List (Bor Text)) (i : ℕ) (d : Bor Text) (loose new : List Event) (event : Event) (ok : Bool) → i < length words → ok ≡ true
    → loose_asked consoles (map (λ w. w.now) (take i words)) ≡ Some loose → only (event_text consoles (get_or words i d).now) ≡ Some event → new ≡ (if ok then loose ++ event ∷ [] else loose)
    → loose_asked consoles (map (λ w. w.now) (take (i + 1) words)) ≡ Some new
loose_more consoles words i d loose new event ok within is_ok h is grown =
    let now : Bor Text → Text = λ w. w.now in
    ap (λ ws. loose_asked consoles (map now ws)) (take_more words i d within) ∙ ap (loose_asked consoles) (map-append now (take i words) (get_or words i d ∷ []))
    ∙ one_more consoles (map now (take i words)) (get_or words i d).now loose event h is ∙ ap Some (sym (grown ∙ ap (λ b. if b then loose ++ event ∷ [] else loose) is_ok))

-- A failure is passed on unchanged.
pub told_word : {T : Type 0} (r : Result T Failure) (P : T → Type 0) (A B : Type 0) (e : Failure) → IsErrAnd r (λ why. why ≡ e) → (A → B) → (status_of e ≡ 3) ⊎ ((status_of e ≡ 2) × A)
    → MatchResult r P (λ why. (status_of why ≡ 3) ⊎ ((status_of why ≡ 2) × B))
told_word (Ok x) P A B e h from why = absurd h
told_word (Err f) P A B e h from (inl three) = rw h (inl three)
told_word (Err f) P A B e h from (inr two) = rw h (inr (two.0, from two.1))
