-- Numbers are read as they are spelled.
use Rattle.std.proofs.Common.{◌≡◌, ℕ, ◌^◌, ◌<◌, ◌≤◌, Bool, true, false, cond, ltb, leb, List, [], ◌∷◌, ◌++◌, length, take, drop, Ok, Err, refl, sym, subst, ◌∙◌, arith}
use Rattle.std.specs.Prelude.{IsTrue}
use Rattle.std.specs.Int.{Width, w16, w32, w64, byte_len, from_be_bytes, to_be_bytes}
use Rattle.std.proofs.lemmas.Bool.{ltb-false, le-ltb, and_parts, and_from, leb-true, le-leb}
use Rattle.std.proofs.lemmas.List.{take_at, drop_at, take-append-drop, length-append, length-take}
use Rattle.std.proofs.lemmas.Nat.{be_bytes_2, be_bytes_4, be_bytes_8, from_be_bytes-to_be_bytes_2, from_be_bytes-to_be_bytes_4, from_be_bytes-to_be_bytes_8}
use Rattle.tcs_terms.specs.declared.ids.TxId.{TxId}
use Rattle.tcs_terms.specs.Places.{is_epoch, is_node, is_shard}
use Rattle.tcs_terms.specs.Messages.{is_slot, is_txn}
use Rattle.wire_frame.specs.declared.faults.Fault.{Fault}
use Rattle.wire_frame.specs.declared.faults.FrameReason.TheVariants.{Range}
use Rattle.wire_frame.specs.Spelling.{two, four, eight, spell_txn}
use Rattle.wire_frame.specs.Reading.{short, byte_at, number_at, run_at, tested}
use Rattle.wire_frame.specs.Parts.{is_up_to, epoch_at, slot_at, node_at, shard_at, sequence_at, txn_at}
use Rattle.wire_frame.proofs.Fields.{IsBytes, IsBytes-drop, IsBytes-take, IsBytes-rest, Takes, IsField, nothing_yet, ok_is, on, all_read, goes, tested_field, restated}

guard_ok : {A : Type 0} (b : Bool) (d : Fault) (x y : A) → cond b (Err d) (Ok x) ≡ Ok y → (b ≡ false) × (x ≡ y)
guard_ok true d x y e = absurd cc
guard_ok false d x y e = (refl, cc)

abbrev pub one : ℕ → List ℕ
one b = b ∷ []

byte_takes : (bytes : List ℕ) (x : ℕ × List ℕ) → IsBytes bytes → byte_at bytes ≡ Ok x → Takes bytes (one x.0) x.1 × (x.0 < 256)
byte_takes [] x fits e = absurd cc
byte_takes (b ∷ rest) x fits e =
    subst (λ (y : ℕ × List ℕ). Takes (b ∷ rest) (one y.0) y.1 × (y.0 < 256)) (ok_is (b, rest) x e) (record { parts = refl; rest_fits = IsBytes-rest b rest fits }, fits 0)

pub byte_field : IsField one (λ b. b < 256) byte_at
byte_field = record { takes = byte_takes; again = λ x rest is. refl }

-- a run of n bytes
pub run_takes : (n : ℕ) (bytes : List ℕ) (x : List ℕ × List ℕ) → IsBytes bytes → run_at n bytes ≡ Ok x → Takes bytes x.0 x.1 × (length x.0 ≡ n) × IsBytes x.0
run_takes n bytes x fits e =
    let g = guard_ok (ltb (length bytes) n) short (take n bytes, drop n bytes) x e in
    let long : n ≤ length bytes = ltb-false _ _ g.0 in
    subst (λ (y : List ℕ × List ℕ). Takes bytes y.0 y.1 × (length y.0 ≡ n) × IsBytes y.0) g.1
    (record { parts = sym (take-append-drop n bytes); rest_fits = IsBytes-drop n bytes fits }, omega (arith, length-take n bytes), IsBytes-take n bytes fits)

pub run_again : (text rest : List ℕ) → run_at (length text) (text ++ rest) ≡ Ok (text, rest)
run_again text rest =
    let long : ltb (length (text ++ rest)) (length text) ≡ false = le-ltb _ _ (omega (arith, length-append text rest)) in
    rw (long, take_at text rest (length text) refl, drop_at text rest (length text) refl) refl

record IsWide (w : Width) (limit : ℕ) : Type 0 where
  len : (n : ℕ) → length (to_be_bytes w n) ≡ byte_len w
  back : (bytes : List ℕ) → length bytes ≡ byte_len w → IsBytes bytes → to_be_bytes w (from_be_bytes w bytes) ≡ bytes
  again : (n : ℕ) → n < limit → from_be_bytes w (to_be_bytes w n) ≡ n
  below : (bytes : List ℕ) → IsBytes bytes → from_be_bytes w bytes < limit

number_field : (w : Width) (limit : ℕ) → IsWide w limit → IsField (to_be_bytes w) (λ n. n < limit) (number_at w)
number_field w limit wide = record {
  takes = λ bytes x fits e.
      let g = guard_ok (ltb (length bytes) (byte_len w)) short (from_be_bytes w (take (byte_len w) bytes), drop (byte_len w) bytes) x e in
      let long : byte_len w ≤ length bytes = ltb-false _ _ g.0 in
      let front = wide.back (take (byte_len w) bytes) (omega (arith, length-take (byte_len w) bytes)) (IsBytes-take (byte_len w) bytes fits) in
      subst (λ (y : ℕ × List ℕ). Takes bytes (to_be_bytes w y.0) y.1 × (y.0 < limit)) g.1
      (record { parts = rw front (sym (take-append-drop (byte_len w) bytes)); rest_fits = IsBytes-drop (byte_len w) bytes fits }, wide.below (take (byte_len w) bytes) (IsBytes-take (byte_len w) bytes fits));
  again = λ n rest lt.
      let len = wide.len n in
      let long : ltb (length (to_be_bytes w n ++ rest)) (byte_len w) ≡ false = le-ltb _ _ (omega (arith, length-append (to_be_bytes w n) rest)) in
      rw (long, take_at (to_be_bytes w n) rest (byte_len w) len, drop_at (to_be_bytes w n) rest (byte_len w) len, wide.again n lt) refl;
}

pub two_field : IsField two (λ n. n < 2 ^ 16) (number_at w16)
unfolding two
two_field = number_field w16 (2 ^ 16) (record {
  len = λ n. refl;
  back = λ bytes len fits. be_bytes_2 bytes _ len fits refl;
  again = λ n lt. from_be_bytes-to_be_bytes_2 n lt;
  below = λ bytes fits. omega (arith, fits 0, fits 1);
})

pub four_field : IsField four (λ n. n < 2 ^ 32) (number_at w32)
unfolding four
four_field = number_field w32 (2 ^ 32) (record {
  len = λ n. refl;
  back = λ bytes len fits. be_bytes_4 bytes _ len fits refl;
  again = λ n lt. from_be_bytes-to_be_bytes_4 n lt;
  below = λ bytes fits. omega (arith, fits 0, fits 1, fits 2, fits 3);
})

pub eight_field : IsField eight (λ n. n < 2 ^ 64) (number_at w64)
unfolding eight
eight_field = number_field w64 (2 ^ 64) (record {
  len = λ n. refl;
  back = λ bytes len fits. be_bytes_8 bytes _ len fits refl;
  again = λ n lt. from_be_bytes-to_be_bytes_8 n lt;
  below = λ bytes fits. omega (arith, fits 0, fits 1, fits 2, fits 3, fits 4, fits 5, fits 6, fits 7);
})

-- ---- numbers in their ranges

pub up_to : (most n : ℕ) → IsTrue (is_up_to most n) → (1 ≤ n) × (n ≤ most)
up_to most n h = let p = and_parts (leb 1 n) (leb n most) h in (leb-true 1 n p.0, leb-true n most p.1)

-- a byte that passes a test, which passes no number above 255
pub small_field : (test : ℕ → Bool) → ((n : ℕ) → IsTrue (test n) → n < 256) → IsField one (λ n. IsTrue (test n)) (tested Range test byte_at)
small_field test small = restated (λ n. IsTrue (test n)) (λ n h. h.1) (λ n h. (small n h, h)) (tested_field Range test byte_field)

pub at_most_field : (most : ℕ) → most < 256 → IsField one (λ n. n ≤ most) (tested Range (λ n. leb n most) byte_at)
at_most_field most small = restated (λ n. n ≤ most) (λ n h. leb-true n most h) (λ n h. le-leb n most h) (small_field (λ n. leb n most) (λ n h. omega (arith, leb-true n most h)))

pub epoch_field : IsField four (λ n. IsTrue (is_epoch n)) epoch_at
unfolding epoch_at
epoch_field = restated (λ n. IsTrue (is_epoch n)) (λ n h. h.1) (λ n h. (omega (arith, up_to 1000000 n h), h)) (tested_field Range is_epoch four_field)

pub slot_field : IsField two (λ n. IsTrue (is_slot n)) slot_at
unfolding slot_at
slot_field = restated (λ n. IsTrue (is_slot n)) (λ n h. h.1) (λ n h. (omega (arith, up_to 4096 n h), h)) (tested_field Range is_slot two_field)

pub sequence_field : IsField four (λ n. IsTrue (is_up_to 1000000 n)) sequence_at
unfolding sequence_at
sequence_field = restated (λ n. IsTrue (is_up_to 1000000 n)) (λ n h. h.1) (λ n h. (omega (arith, up_to 1000000 n h), h)) (tested_field Range (is_up_to 1000000) four_field)

pub node_field : IsField one (λ n. IsTrue (is_node n)) node_at
unfolding node_at
node_field = small_field is_node (λ n h. omega (arith, up_to 64 n h))

pub shard_field : IsField one (λ n. IsTrue (is_shard n)) shard_at
unfolding shard_at
shard_field = small_field is_shard (λ n h. omega (arith, up_to 16 n h))

txn_takes : (bytes : List ℕ) (x : TxId × List ℕ) → IsBytes bytes → txn_at bytes ≡ Ok x → Takes bytes (spell_txn x.0) x.1 × IsTrue (is_txn x.0)
unfolding txn_at
txn_takes bytes x fits e =
    on node_field _ x bytes [] bytes (nothing_yet bytes fits) e (λ home mid so_far is_home e.
    on sequence_field _ x bytes _ mid so_far e (λ seq rest so_far is_seq e.
    all_read spell_txn (λ t. IsTrue (is_txn t)) bytes _ rest x e so_far (and_from (is_node home) (is_up_to 1000000 seq) is_home is_seq)))

txn_again : (t : TxId) (rest : List ℕ) → IsTrue (is_txn t) → txn_at (spell_txn t ++ rest) ≡ Ok (t, rest)
unfolding txn_at
txn_again t rest is =
    let p = and_parts (is_node t.home) (is_up_to 1000000 t.seq) is in
    goes node_field _ t.home (four t.seq ++ rest) p.0 ∙ goes sequence_field _ t.seq rest p.1

pub txn_field : IsField spell_txn (λ t. IsTrue (is_txn t)) txn_at
txn_field = record { takes = txn_takes; again = txn_again }
