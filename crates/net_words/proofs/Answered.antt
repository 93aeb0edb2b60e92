-- What the program answers, from what `clap` answers.
use Rattle.std.proofs.Common.{◌≡◌, ◌∙◌, ◌⊎◌, ap, subst, sym, inl, inr, refl, List, [], ◌∷◌, Option, Some, None, Result}
use Rattle.std.specs.Prelude.{Ok, Err, MatchResult, IsErrAnd, IsSomeAnd, codes, ok_or}
use Rattle.std.specs.Borrow.{Bor}
use Rattle.clap.specs.Kinds.{IsAmong, Kinds}
use Rattle.clap.specs.Words.{App, Row, Text, fault_of, matches_of}
use Rattle.clap.specs.declared.error.kind.ErrorKind.{ErrorKind}
use Rattle.clap.specs.declared.error.kind.ErrorKind.TheVariants as kind
use Rattle.net_words.specs.Definition.{Lent, definition, mode_words}
use Rattle.net_words.specs.Refusals.{ComesTo, Refuses, asks_for_text}
use Rattle.net_words.specs.Requests.{Asks, Holds, IsInRange}
use Rattle.net_words.specs.declared.refusal.Refusal.{Refusal}
use Rattle.net_words.specs.declared.refusal.Refusal.TheVariants.{BadWords, Shown, OutOfMemory}
use Rattle.net_words.specs.declared.request.Request.{Request}

-- the refusal is one that the kinds of error lead to
pub refuses : (k : ErrorKind) (kinds : Kinds) (r : Refusal) → ComesTo k r
    → (k ≡ kind.OutOfMemory) ⊎ IsAmong k kinds → Refuses kinds r
refuses k kinds BadWords comes (inl memory) = absurd (comes.1 memory)
refuses k kinds BadWords comes (inr among) = (k, among, comes.0)
refuses k kinds (Shown text) comes (inl memory) =
    let bad = sym (ap asks_for_text memory) ∙ comes in
    cc
refuses k kinds (Shown text) comes (inr among) = (k, among, comes)
refuses k kinds OutOfMemory comes has = tt

-- so it is where memory ran out
pub no_memory : (command : App) (words : List Text) (result : Result Request Refusal)
    → IsErrAnd result (λ e. e ≡ OutOfMemory)
    → MatchResult result (Asks command words) (Refuses (fault_of command words))
no_memory command words (Ok r) h = absurd h
no_memory command words (Err e) h = rw h tt

-- what was read of the matches is what was asked
pub asks : (modes : Lent mode_words) (words : List Text) (rows : List Row) (read : Option Request) (result : Result Request Refusal)
    → fault_of (definition modes) words ≡ [] → rows ≡ matches_of (definition modes) words
    → IsSomeAnd read (λ r. Holds rows r × IsInRange r)
    → result ≡ ok_or read BadWords
    → MatchResult result (Asks (definition modes) words) (Refuses (fault_of (definition modes) words))
asks modes words rows None result taken are h is = absurd h
asks modes words rows (Some r) result taken are h is = rw is (record {
  taken = taken;
  values = subst (λ (rs : List Row). Holds rs r) are h.0;
  ranges = h.1;
})

-- somewhere the words of the modes lie in memory
pub lent : {X : Type 0} → Bor X → Lent mode_words
lent at = record {
  list = record { ref_ptr = at.ref_ptr; now = word (codes "cluster") ∷ word (codes "node") ∷ word (codes "guard") ∷ [] };
  are = refl;
}
  where
    word : Text → Bor Text
    word text = record { ref_ptr = at.ref_ptr; now = text }
