-- A line is put together of pieces.
use Rattle.std.proofs.Common.{◌≡◌, ℕ, ◌<◌, Bool, true, false, ◌==◌, List, ◌∷◌, ◌++◌, length, refl, sym, ap, ◌∙◌, inl, inr, subst, append_assoc, length-append, arith}
use Rattle.std.specs.Prelude.{◌⊎◌, Option, if◌then◌else◌}
use Rattle.std.proofs.lemmas.Bool.{or_from}
use Rattle.std.proofs.lemmas.List.Folds.{list_any-append}
use Rattle.schedule_text.specs.declared.lines.Got.{Got}
use Rattle.schedule_text.specs.declared.lines.Got.TheVariants as gots
use Rattle.schedule_text.specs.Lines.{line_feed, has_feed, Fits, HandsOut}
use Rattle.long_lines.specs.declared.texts.TextEnd.{TextEnd}
use Rattle.long_lines.specs.declared.texts.TextEnd.TheVariants.{Whole, Long, Ended}
use Rattle.long_lines.specs.Texts.{is_too_long, Yields, Appends, Gathers}

-- no line feed is in a piece
piece_lacks : (got : Got) (piece : List ℕ) → Fits got piece → has_feed piece ≡ false
piece_lacks gots.Whole piece fits = fits.no_feed
piece_lacks gots.Cut piece fits = fits.0.no_feed
piece_lacks gots.Long piece fits = fits.0
piece_lacks gots.Nothing piece fits = ap has_feed fits

-- nor in the pieces so far
pub lacks_on : (got : Got) (before after held held' : List ℕ) (left left' : Option (List ℕ)) → Appends got before after held held' left left'
    → has_feed before ≡ false → has_feed after ≡ false
lacks_on got before after held held' left left' a none =
    ap has_feed a.joined ∙ list_any-append (λ c. c == line_feed) before a.piece
    ∙ or_from (has_feed before) (has_feed a.piece) none (piece_lacks got a.piece a.fits)

-- a full piece has bytes
pub longer_by : (before after held held' : List ℕ) (left left' : Option (List ℕ)) → Appends gots.Long before after held held' left left'
    → length before < length after
longer_by before after held held' left left' a =
    let many = a.fits.1 in
    omega (arith, many, ap length a.joined, length-append before a.piece)

-- a full piece more
pub gathers_more : (all before after held held' : List ℕ) (left left' : Option (List ℕ)) → Appends gots.Long before after held held' left left'
    → Gathers all before held left → Gathers all after held' left'
gathers_more all before after held held' left left' a g =
    let h : HandsOut gots.Long (held ++ g.rest) a.piece held' left' = a.hands g.rest g.told in
    record {
      rest = h.rest;
      told = h.told;
      whole = g.whole ∙ ap (λ (xs : List ℕ). before ++ xs) h.divided ∙ sym (append_assoc before a.piece (held' ++ h.rest))
          ∙ ap (λ (xs : List ℕ). xs ++ (held' ++ h.rest)) (sym a.joined);
    }

-- with it the text is too long
pub yields_long : (most : ℕ) (all before after held held' : List ℕ) (left left' : Option (List ℕ)) → Appends gots.Long before after held held' left left'
    → Gathers all before held left → has_feed before ≡ false → is_too_long most after ≡ true → Yields most Long all after held' left'
yields_long most all before after held held' left left' a g none long =
    let more : Gathers all after held' left' = gathers_more all before after held held' left left' a g in
    record {
      rest = more.rest;
      told = more.told;
      one_line = lacks_on gots.Long before after held held' left left' a none;
      divided = (
        held' ++ more.rest,
        more.whole,
        omega (arith, longer_by before after held held' left left' a, ap length more.whole, length-append after (held' ++ more.rest)),
        long,
      );
    }

-- a line feed ends the text
pub yields_whole : (most : ℕ) (all before after held held' : List ℕ) (left left' : Option (List ℕ)) (end : TextEnd)
    → Appends gots.Whole before after held held' left left' → Gathers all before held left → has_feed before ≡ false
    → end ≡ (if is_too_long most after then Long else Whole) → Yields most end all after held' left'
yields_whole most all before after held held' left left' end a g none is = subst (λ e. Yields most e all after held' left') (sym is) (go (is_too_long most after) refl)
  where
    h : HandsOut gots.Whole (held ++ g.rest) a.piece held' left'
    h = a.hands g.rest g.told

    whole : all ≡ after ++ line_feed ∷ (held' ++ h.rest)
    whole = g.whole ∙ ap (λ (xs : List ℕ). before ++ xs) h.divided ∙ sym (append_assoc before a.piece (line_feed ∷ (held' ++ h.rest)))
        ∙ ap (λ (xs : List ℕ). xs ++ line_feed ∷ (held' ++ h.rest)) (sym a.joined)

    go : (b : Bool) → is_too_long most after ≡ b → Yields most (if b then Long else Whole) all after held' left'
    go true e = record {
      rest = h.rest;
      told = h.told;
      one_line = lacks_on gots.Whole before after held held' left left' a none;
      divided = (line_feed ∷ (held' ++ h.rest), whole, omega (arith, ap length whole, length-append after (line_feed ∷ (held' ++ h.rest))), e);
    }
    go false e = record {
      rest = h.rest;
      told = h.told;
      one_line = lacks_on gots.Whole before after held held' left left' a none;
      divided = (whole, e);
    }

-- the input ends behind the text
yields_cut : (most : ℕ) (all before after held held' : List ℕ) (left left' : Option (List ℕ)) → Appends gots.Cut before after held held' left left'
    → Gathers all before held left → has_feed before ≡ false → Yields most Ended all after held' left'
yields_cut most all before after held held' left left' a g none =
    let h : HandsOut gots.Cut (held ++ g.rest) a.piece held' left' = a.hands g.rest g.told in
    record {
      rest = h.rest;
      told = h.told;
      one_line = lacks_on gots.Cut before after held held' left left' a none;
      divided = (g.whole ∙ ap (λ (xs : List ℕ). before ++ xs) h.divided.0 ∙ sym a.joined, h.divided.1, h.divided.2);
    }

yields_nothing : (most : ℕ) (all before after held held' : List ℕ) (left left' : Option (List ℕ)) → Appends gots.Nothing before after held held' left left'
    → Gathers all before held left → has_feed before ≡ false → Yields most Ended all after held' left'
yields_nothing most all before after held held' left left' a g none =
    let h : HandsOut gots.Nothing (held ++ g.rest) a.piece held' left' = a.hands g.rest g.told in
    record {
      rest = h.rest;
      told = h.told;
      one_line = lacks_on gots.Nothing before after held held' left left' a none;
      divided = (g.whole ∙ ap (λ (xs : List ℕ). before ++ xs) (h.divided.0 ∙ sym a.fits) ∙ sym a.joined, h.divided.1, h.divided.2);
    }

pub yields_end : (most : ℕ) (all before after held held' : List ℕ) (left left' : Option (List ℕ)) (got : Got) → (got ≡ gots.Cut) ⊎ (got ≡ gots.Nothing)
    → Appends got before after held held' left left' → Gathers all before held left → has_feed before ≡ false → Yields most Ended all after held' left'
yields_end most all before after held held' left left' got which a g none = elim which [
  | inl cut ↦ yields_cut most all before after held held' left left' (rw cut at a) g none
  | inr nothing ↦ yields_nothing most all before after held held' left left' (rw nothing at a) g none
]
