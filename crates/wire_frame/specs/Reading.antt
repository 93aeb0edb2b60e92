-- Reading from left to right, with the first fault that is met.
use Rattle.std.specs.Prelude.{◌≡◌, ℕ, zero, suc, Bool, List, [], ◌∷◌, length, take, drop, Result, Ok, Err, nat_lt, if◌then◌else◌}
use Rattle.std.specs.Int.{Width, byte_len, from_be_bytes}
use Rattle.wire_frame.specs.declared.faults.FrameReason.{FrameReason}
use Rattle.wire_frame.specs.declared.faults.FrameReason.TheVariants.{Short}
use Rattle.wire_frame.specs.declared.faults.Fault.{Fault}
use Rattle.wire_frame.specs.declared.faults.ReadError.{ReadError}
use Rattle.wire_frame.specs.declared.faults.ReadError.TheVariants as errors

-- a fault at the first of these bytes, which are all that is left from there on
abbrev pub fault_at : FrameReason → List ℕ → Fault
fault_at reason bytes = record { reason = reason; left = length bytes }

-- the bytes end before a part is whole: that is a fault at the end
abbrev pub short : Fault
short = fault_at Short []

-- what is read from the front of bytes: a value and the bytes after it, or a fault
abbrev pub Reads : Type 0 → Type 0
Reads X = Result (X × List ℕ) Fault

infixl 10 ◌>>=◌
abbrev pub ◌>>=◌ : {A B : Type 0} → Result A Fault → (A → Result B Fault) → Result B Fault
(Ok x) >>= f = f x
(Err e) >>= f = Err e

-- What a function returned, seen by view, is what reading gives, unless memory ran out.
abbrev pub Fails : {Y : Type 0} → ReadError → Result Y Fault → Type 0
Fails errors.Memory read = Unit {0}
Fails (errors.Bad f) read = read ≡ Err f

abbrev pub Gives : {X Y : Type 0} → (X → Y) → Result X ReadError → Result Y Fault → Type 0
Gives view (Ok x) read = read ≡ Ok (view x)
Gives view (Err e) read = Fails e read

abbrev pub byte_at : List ℕ → Reads ℕ
byte_at [] = Err short
byte_at (b ∷ rest) = Ok (b, rest)

-- a number, the highest byte first
abbrev pub number_at : Width → List ℕ → Reads ℕ
number_at w bytes = if nat_lt (length bytes) (byte_len w) then Err short else Ok (from_be_bytes w (take (byte_len w) bytes), drop (byte_len w) bytes)

-- so many bytes
abbrev pub run_at : ℕ → List ℕ → Reads (List ℕ)
run_at n bytes = if nat_lt (length bytes) n then Err short else Ok (take n bytes, drop n bytes)

-- what is read, where it passes the test; else there is a fault at its first byte
abbrev pub tested : {X : Type 0} → FrameReason → (X → Bool) → (List ℕ → Reads X) → List ℕ → Reads X
tested reason test read bytes = do
  x ← read bytes
  if test x.0 then Ok x else Err (fault_at reason bytes)

-- n parts one after the other: each is read by what is known of those before it
unfoldable pub each_at : {K X : Type 0} → (K → List ℕ → Reads X) → (K → X → K) → ℕ → K → List ℕ → Reads (List X)
each_at one more zero known bytes = Ok ([], bytes)
each_at one more (suc n) known bytes = do
  first ← one known bytes
  others ← each_at one more n (more known first.0) first.1
  Ok (first.0 ∷ others.0, others.1)
