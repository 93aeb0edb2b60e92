-- All bytes are the text of a schedule, or have a first bad line.
use Rattle.std.proofs.Common.{◌≡◌, ◌⊎◌, inl, inr, ℕ, zero, suc, ◌+◌, ◌<◌, ◌≤◌, Bool, true, false, List, [], ◌∷◌, ◌++◌, length, Result, Ok, Err, refl, ap, subst, arith}
use Rattle.std.specs.Prelude.{◌==◌}
use Rattle.std.proofs.lemmas.Bool.{eqb-true}
use Rattle.std.proofs.lemmas.List.{length-append}
use Rattle.text_words.specs.declared.words.Reason.{Reason}
use Rattle.tcs_terms.specs.Setups.{Deployment}
use Rattle.schedule_text.specs.declared.limits.TheConstants.{LINE_LIMIT}
use Rattle.schedule_text.specs.declared.lines.Got.{Got}
use Rattle.schedule_text.specs.declared.lines.Got.TheVariants.{Whole, Cut, Long, Nothing}
use Rattle.schedule_text.specs.declared.places.Place.{Place}
use Rattle.schedule_text.specs.declared.places.Place.TheVariants as places
use Rattle.schedule_text.specs.declared.reader.LineItem.{LineItem}
use Rattle.schedule_text.specs.Bytes.{Taken, IsNext, HasText, HasFirstBad, events_on}
use Rattle.schedule_text.specs.Lines.{has_feed, line_feed}
use Rattle.schedule_text.specs.Schedules.{Progress, at_start, line_reading}
use Rattle.schedule_text.proofs.BytesRead.{none_taken, one_taken}
use Rattle.schedule_text.proofs.FirstBadLines.{taken_to_the_end}
use Rattle.schedule_text.proofs.ScheduleReadings.{at}

-- ---- what comes next

-- a line of at most so many bytes comes first, or there is no line feed in these few bytes, or in more than so many
data Split (most : ℕ) (bytes : List ℕ) : Type 0 where
  Feed : (line : List ℕ) → (rest : List ℕ) → has_feed line ≡ false → length line ≤ most → bytes ≡ line ++ line_feed ∷ rest → Split most bytes
  Few : has_feed bytes ≡ false → length bytes ≤ most → Split most bytes
  Many : (line : List ℕ) → (rest : List ℕ) → has_feed line ≡ false → length line ≡ most + 1 → bytes ≡ line ++ rest → Split most bytes

with_one : (most b : ℕ) (bytes : List ℕ) → (b == line_feed) ≡ false → Split most bytes → Split (suc most) (b ∷ bytes)
with_one most b bytes other (Feed line rest none short same) = Feed (b ∷ line) rest (rw other none) (omega arith) (ap (λ (bs : List ℕ). b ∷ bs) same)
with_one most b bytes other (Few none short) = Few (rw other none) (omega arith)
with_one most b bytes other (Many line rest none long same) = Many (b ∷ line) rest (rw other none) (omega arith) (ap (λ (bs : List ℕ). b ∷ bs) same)

split : (most : ℕ) (bytes : List ℕ) → Split most bytes
split most [] = Few refl (omega arith)
split zero (b ∷ bytes) = go (b == line_feed) refl where
  go : (x : Bool) → (b == line_feed) ≡ x → Split zero (b ∷ bytes)
  go true e = Feed [] bytes refl (omega arith) (ap (λ (c : ℕ). c ∷ bytes) (eqb-true b line_feed e))
  go false e = Many (b ∷ []) bytes (rw e refl) refl refl
split (suc most) (b ∷ bytes) = go (split most bytes) (b == line_feed) refl where
  go : Split most bytes → (x : Bool) → (b == line_feed) ≡ x → Split (suc most) (b ∷ bytes)
  go others true e = Feed [] bytes refl (omega arith) (ap (λ (c : ℕ). c ∷ bytes) (eqb-true b line_feed e))
  go others false e = with_one most b bytes e others

record Next (bytes : List ℕ) : Type 0 where
  got : Got
  line : List ℕ
  rest : List ℕ
  is : IsNext bytes got line rest

few_left : (bytes : List ℕ) → has_feed bytes ≡ false → length bytes ≤ LINE_LIMIT → Next bytes
few_left [] none short = record { got = Nothing; line = []; rest = []; is = (refl, (refl, refl, refl)) }
few_left (b ∷ bytes) none short =
    record { got = Cut; line = b ∷ bytes; rest = []; is = ((record { no_feed = none; short = short }, omega arith), (refl, refl, refl)) }

-- something comes next, whatever the bytes are
next_of : (bytes : List ℕ) → Next bytes
next_of bytes = go (split LINE_LIMIT bytes) where
  go : Split LINE_LIMIT bytes → Next bytes
  go (Feed line rest none short same) = record { got = Whole; line = line; rest = rest; is = (record { no_feed = none; short = short }, same) }
  go (Few none short) = few_left bytes none short
  go (Many line rest none long same) = record { got = Long; line = line; rest = rest; is = ((none, long), same) }

-- ---- line by line

no_cut : (place : Place) (d : Deployment) (count : ℕ) (line : List ℕ) (x : LineItem × Progress) → line_reading (at place d count) Cut line ≡ Ok x → ⊥
no_cut places.Version d count line x h = absurd cc
no_cut places.Certifier d count line x h = absurd cc
no_cut places.Shards d count line x h = absurd cc
no_cut places.Parts d count line x h = absurd cc
no_cut places.Events d count line x h = absurd cc
no_cut places.Ended d count line x h = absurd cc

no_long : (place : Place) (d : Deployment) (count : ℕ) (line : List ℕ) (x : LineItem × Progress) → line_reading (at place d count) Long line ≡ Ok x → ⊥
no_long places.Version d count line x h = absurd cc
no_long places.Certifier d count line x h = absurd cc
no_long places.Shards d count line x h = absurd cc
no_long places.Parts d count line x h = absurd cc
no_long places.Events d count line x h = absurd cc
no_long places.Ended d count line x h = absurd cc

-- nothing is taken only at the end
end_only : (place : Place) (d : Deployment) (count : ℕ) (line : List ℕ) (x : LineItem × Progress) → line_reading (at place d count) Nothing line ≡ Ok x → place ≡ places.Ended
end_only places.Version d count line x h = absurd cc
end_only places.Certifier d count line x h = absurd cc
end_only places.Shards d count line x h = absurd cc
end_only places.Parts d count line x h = absurd cc
end_only places.Events d count line x h = absurd cc
end_only places.Ended d count line x h = refl

-- what these bytes are, where it is known for all bytes that have one line more taken of them
goes_on : (bytes : List ℕ) (lines : List (List ℕ)) (is : List LineItem) (p : Progress) (behind : List ℕ) → Taken bytes lines is p behind
    → ((ls : List (List ℕ)) (js : List LineItem) (q : Progress) (rest : List ℕ) → Taken bytes ls js q rest → length rest < length behind → HasText bytes ⊎ HasFirstBad bytes)
    → HasText bytes ⊎ HasFirstBad bytes
goes_on bytes lines is p behind t more = let n = next_of behind in go n.got n.line n.rest n.is (line_reading p n.got n.line) refl where
  go : (got : Got) (line rest : List ℕ) → IsNext behind got line rest → (r : Result (LineItem × Progress) Reason) → line_reading p got line ≡ r → HasText bytes ⊎ HasFirstBad bytes
  go got line rest next (Err reason) e = inr (record {
    number = length lines + 1;
    reason = reason;
    items = is;
    is = record { lines = lines; progress = p; behind = behind; taken = t; numbered = refl; got = got; line = line; rest = rest; next = next; refused = e };
  })
  go Whole line rest next (Ok x) e =
      more (lines ++ line ∷ []) (is ++ x.0 ∷ []) x.1 rest (one_taken bytes lines is p x.1 behind line rest x.0 t next e)
      (omega (arith, ap length next.1, length-append line (line_feed ∷ rest)))
  go Cut line rest next (Ok x) e = absurd (no_cut p.head.place p.head.setup p.count line x e)
  go Long line rest next (Ok x) e = absurd (no_long p.head.place p.head.setup p.count line x e)
  go Nothing line rest next (Ok x) e =
      let all : Taken bytes lines is p [] = subst (Taken bytes lines is p) next.1.0 t in
      inl (record { setup = p.head.setup; events = events_on is; is = taken_to_the_end bytes lines is p all (end_only p.head.place p.head.setup p.count line x e) })

from_here : (n : ℕ) (bytes : List ℕ) (lines : List (List ℕ)) (is : List LineItem) (p : Progress) (behind : List ℕ) → length behind ≤ n → Taken bytes lines is p behind → HasText bytes ⊎ HasFirstBad bytes
from_here zero bytes lines is p behind few t = goes_on bytes lines is p behind t (λ ls js q rest u less. absurd (omega arith))
from_here (suc n) bytes lines is p behind few t = goes_on bytes lines is p behind t (λ ls js q rest u less. from_here n bytes ls js q rest (omega arith) u)

pub text_or_bad : (bytes : List ℕ) → HasText bytes ⊎ HasFirstBad bytes
text_or_bad bytes = from_here (length bytes) bytes [] [] at_start bytes (omega arith) (none_taken bytes)
