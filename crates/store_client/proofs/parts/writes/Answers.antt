-- The write of the part is copied behind those before it.
use Rattle.std.proofs.Common.{◌≡◌, ℕ, ◌+◌, ◌<◌, List, [], ◌∷◌, ◌++◌, length, get_or, take, sym, ap, ◌∙◌}
use Rattle.std.proofs.lemmas.List.{take_more, flat_map_more}
use Rattle.tcs_terms.specs.declared.payloads.WritePart.{WritePart}
use Rattle.store_client.specs.declared.parts.Part.{Part}
use Rattle.store_client.specs.Parts.{write_of, writes}
use Rattle.store_client.proofs.parts.writes.Goals as goal

write_more : (parts : List Part) (i : ℕ) (p : Part) (before after : List WritePart) → i < length parts → p ≡ get_or parts i p → before ≡ writes (take i parts)
    → after ≡ before ++ write_of p.name p.put → after ≡ writes (take (i + 1) parts)
write_more parts i p before after within at so_far grown =
    grown ∙ ap (λ (ws : List WritePart). ws ++ write_of p.name p.put) so_far ∙ flat_map_more (λ (q : Part). write_of q.name q.put) [] (take i parts) p
    ∙ ap writes (ap (λ (q : Part). take i parts ++ q ∷ []) at ∙ sym (take_more parts i p within))

pub loop-part-preserved : goal.loop-part-preserved
loop-part-preserved c = record {
  copied = write_more c.args.parts.now c.loop-part.part-index c.part-item.result c.loop-part.list.items c.add_write.new.list.items c.loop-part-test.true c.part-item.is c.loop-part.invariant.copied c.in_ok-add_write.ensures.added;
  are = c.in_ok-add_write.ensures.parts c.loop-part.invariant.are;
}
