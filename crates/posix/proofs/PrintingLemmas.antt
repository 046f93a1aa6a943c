-- Lines and bytes that are printed.
use Rattle.std.proofs.Common.{◌≡◌, ℕ, zero, suc, ◌<◌, true, List, [], ◌∷◌, ◌++◌, get_or, refl}
use Rattle.std.specs.Prelude.{nat_lt}
use Rattle.std.specs.List.{join_with_byte, list_all}
use Rattle.std.proofs.lemmas.Bool.{lt-ltb}
use Rattle.posix.specs.declared.entry.Entry.{Entry}
use Rattle.posix.specs.declared.entry.Entry.TheVariants.{Reported}
use Rattle.posix.specs.declared.waits.WaitCall.TheVariants as wait
use Rattle.posix.specs.Common.{words_of}

-- what a line begins with, apart from the words of its entry
pub number_and_words : (number : List ℕ) (e : Entry) → join_with_byte 32 (number ∷ words_of e) ≡ number ++ 32 ∷ join_with_byte 32 (words_of e)
number_and_words number (Reported p wait.Waitpid c w) = refl
number_and_words number _ = refl

-- the items of a list of u8
pub bytes_fit : (bytes : List ℕ) → ((i : ℕ) → get_or bytes i 0 < 256) → list_all (λ b. nat_lt b 256) bytes ≡ true
bytes_fit [] fit = refl
bytes_fit (b ∷ bs) fit = rw (lt-ltb b 256 (fit zero), bytes_fit bs (λ i. fit (suc i))) refl
