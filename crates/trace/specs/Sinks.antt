-- What is observed of a sink, and how that changes as bytes are put.
use Rattle.std.specs.Prelude.{◌≡◌, ℕ, ◌+◌, ◌%◌, ◌^◌, ◌==◌, ◌&&◌, Bool, true, List, ◌++◌, length, nat_lt, if◌then◌else◌, Option, Result, Ok, Err}
use Rattle.std.specs.Io.KnownBytes.{Appends}

pub record Seen : Type 0 where
  pub taken : Option (List ℕ)  -- the bytes that it took, if the sink tells them
  pub failures : ℕ  -- the number of failed puts, as a u64 that wraps
  pub last_failed : Bool  -- whether the last put failed

-- Returns true if a put failed: it returned an error, or took none of a number of bytes above 0.
abbrev pub is_failure : {E : Type 0} → Result ℕ E → List ℕ → Bool
is_failure (Ok n) bytes = (n == 0) && nat_lt 0 (length bytes)
is_failure (Err e) bytes = true

abbrev pub failures_after : {E : Type 0} → ℕ → Result ℕ E → List ℕ → ℕ
failures_after old result bytes = if is_failure result bytes then (old + 1) % 2 ^ 64 else old

-- All bytes were taken, and no put failed.
pub record TakesAll (old new : Seen) (bytes : List ℕ) : Type 0 where
  pub taken : Appends old.taken new.taken bytes
  pub no_failure : new.failures ≡ old.failures

-- A prefix of the bytes was taken, one put failed, and it was the last.
pub record BreaksOff (old new : Seen) (bytes : List ℕ) : Type 0 where
  pub front : List ℕ
  pub rest : List ℕ
  pub split : bytes ≡ front ++ rest
  pub taken : Appends old.taken new.taken front
  pub counted : new.failures ≡ (old.failures + 1) % 2 ^ 64
  pub last : new.last_failed ≡ true

-- Of the buffered bytes, followed by these, a prefix was taken, the rest is buffered, and no put failed.
pub record Gathers (old : Seen) (before : List ℕ) (new : Seen) (after : List ℕ) (bytes : List ℕ) : Type 0 where
  pub front : List ℕ
  pub split : before ++ bytes ≡ front ++ after
  pub taken : Appends old.taken new.taken front
  pub no_failure : new.failures ≡ old.failures
