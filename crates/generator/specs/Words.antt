-- The words of the generator: the outputs of PCG XSH RR 64/32, stream 1, from a seed on.
use Rattle.std.specs.Prelude.{ℕ}
use Rattle.rand_pcg.specs.Lcg.{Lcg, started, increment_of}
use Rattle.rand_pcg.specs.Pcg.{multiplier_64, pcg32}

-- where the words of a seed begin
unfoldable pub words_from : ℕ → Lcg
words_from seed = started 64 multiplier_64 seed (increment_of 64 1)

-- the next word
unfoldable pub word : Lcg → ℕ
word g = (pcg32 g).0

-- the words behind it
unfoldable pub later : Lcg → Lcg
later g = (pcg32 g).1
