-- What the arguments of a command line ask for.
use Rattle.std.proofs.Common.{◌≡◌, ◌≢◌, ◌⊎◌, ◌∙◌, List, [], ◌∷◌, Option, Some, None, true, ap, sym, refl, subst, inl, inr, Result, Ok, Err, MatchResult, option_map}
use Rattle.std.specs.Prelude.{IsErrAnd, ok_or}
use Rattle.std.proofs.lemmas.Bool.{and_parts}
use Rattle.clap.specs.Kinds.{FailsBy, HasKind, IsAmong, Kinds}
use Rattle.clap.specs.Words.{App, HasMatchesOf, Row, Text, fault_of, found_of, is_simple, is_simple_and_free, kind_of, matches_of, rows_of}
use Rattle.clap.specs.declared.error.Error.{Error}
use Rattle.clap.specs.declared.error.kind.ErrorKind.{ErrorKind}
use Rattle.clap.specs.declared.error.kind.ErrorKind.TheVariants as kind
use Rattle.clap.specs.declared.parser.matches.ArgMatches.{ArgMatches}
use Rattle.inputs.specs.declared.words.NoRequest.{NoRequest}
use Rattle.inputs.specs.declared.words.NoRequest.TheVariants.{Usage}
use Rattle.inputs.specs.Words.{command_with_file, unless_refused, with_files}

where_refused : {A : Type 0} (kinds : Kinds) (k : ErrorKind) (asked : Option A) → IsAmong k kinds → unless_refused kinds asked ≡ None
where_refused [] k asked h = absurd h
where_refused (x ∷ xs) k asked h = refl

-- Accepted arguments ask for the same as their matches.
pub taken_words : {A : Type 0} (a command : App) (words : List Text) (m : ArgMatches) (asked : List Row → Option A)
    → is_simple_and_free command ≡ true → a ≡ command → (is_simple_and_free a ≡ true → FailsBy (fault_of a words) (Ok m)) → HasMatchesOf a words m
    → unless_refused (fault_of command words) (asked (matches_of command words)) ≡ asked (rows_of (found_of m))
taken_words a command words m asked free is_command fails matches =
    let P : App → Type 0 = λ b. is_simple_and_free b ≡ true → FailsBy (fault_of b words) (Ok m) in
    let Q : App → Type 0 = λ b. HasMatchesOf b words m in
    let none : fault_of command words ≡ [] = subst P is_command fails free in
    let read = subst Q is_command matches (and_parts (is_simple command) _ free).0 in
    ap (λ kinds. unless_refused kinds (asked (matches_of command words))) none ∙ ap asked (sym read.0)

-- Arguments that are rejected for a usage error ask for nothing.
pub refused_words : {A : Type 0} (a command : App) (words : List Text) (e : Error) (asked : Option A) → is_simple_and_free command ≡ true → a ≡ command
    → (is_simple_and_free a ≡ true → HasKind (fault_of a words) e) → (kind_of e ≡ kind.OutOfMemory) ⊎ (unless_refused (fault_of command words) asked ≡ None)
refused_words a command words e asked free is_command fails =
    let P : App → Type 0 = λ b. is_simple_and_free b ≡ true → HasKind (fault_of b words) e in
    elim (subst P is_command fails free) [
      | inl memory ↦ inl memory
      | inr among ↦ inr (where_refused (fault_of command words) (kind_of e) asked among)
    ]

-- Rejected arguments ask for nothing, unless there was no memory.
pub told_refused : {A R : Type 0} (result : Result R NoRequest) (P : R → Type 0) (asked : Option A) (e : Error) → IsErrAnd result (λ why. why ≡ Usage → kind_of e ≢ kind.OutOfMemory)
    → (kind_of e ≡ kind.OutOfMemory) ⊎ (asked ≡ None) → MatchResult result P (λ why. why ≡ Usage → asked ≡ None)
told_refused (Ok r) P asked e h none = absurd h
told_refused (Err why) P asked e h (inl memory) = λ usage. absurd (h usage memory)
told_refused (Err why) P asked e h (inr none) = λ usage. none

-- The arguments ask for what their matches ask for.
pub asked_alike : {A R : Type 0} (f : R → A) (result : Result R NoRequest) (by_matches by_words : Option A) → by_words ≡ by_matches
    → MatchResult result (λ r. by_matches ≡ Some (f r)) (λ why. by_matches ≡ None)
    → MatchResult result (λ r. by_words ≡ Some (f r)) (λ why. why ≡ Usage → by_words ≡ None)
asked_alike f (Ok r) by_matches by_words same h = same ∙ h
asked_alike f (Err why) by_matches by_words same h = λ usage. same ∙ h

-- ---- one file, and two

pub files_are_simple : (program : Text) → is_simple_and_free (with_files program) ≡ true
files_are_simple program = refl

pub file_is_simple : (program file : Text) → is_simple_and_free (command_with_file program file) ≡ true
file_is_simple program file = refl

-- the result is what the arguments ask for
pub told_asked : {A B : Type 0} (f : A → B) (result : Result A NoRequest) (found : Option A) (asked : Option B) → result ≡ ok_or found Usage → asked ≡ option_map f found
    → MatchResult result (λ n. asked ≡ Some (f n)) (λ why. why ≡ Usage → asked ≡ None)
told_asked f result (Some n) asked is same = rw is same
told_asked f result None asked is same = rw is (λ usage. same)
