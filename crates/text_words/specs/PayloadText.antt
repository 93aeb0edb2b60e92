-- The text of a payload: words with one space between them.
use Rattle.std.specs.Prelude.{ℕ, List, [], ◌∷◌, ◌++◌, codes, decimal}
use Rattle.std.specs.List.{flat_map}
use Rattle.hex.specs.Hex.{encode_lower}
use Rattle.tcs_terms.specs.declared.payloads.ReadPart.{ReadPart}
use Rattle.tcs_terms.specs.declared.payloads.RangePart.{RangePart}
use Rattle.tcs_terms.specs.declared.payloads.WritePart.{WritePart}
use Rattle.tcs_terms.specs.Payloads.{Accesses}

-- a value in lower-case hex, or a dash where it is empty
abbrev pub value_text : List ℕ → List ℕ
value_text [] = codes "-"
value_text (b ∷ bs) = encode_lower (b ∷ bs)

-- a read, with the space before it
abbrev pub read_text : ReadPart → List ℕ
read_text r = codes " r " ++ r.name ++ codes " " ++ decimal r.version

-- a range, with the space before it
abbrev pub range_text : RangePart → List ℕ
range_text q = codes " q " ++ q.from ++ codes " " ++ q.upto ++ codes " " ++ decimal q.version

-- a write, with the space before it
abbrev pub write_text : WritePart → List ℕ
write_text w = codes " w " ++ w.name ++ codes " " ++ value_text w.value

-- the commit version, then the reads, the ranges and the writes
unfoldable pub payload_text : Accesses → List ℕ
payload_text p = codes "v " ++ decimal p.version ++ flat_map read_text p.reads ++ flat_map range_text p.ranges ++ flat_map write_text p.writes
