-- The part is copied behind those before it.
use Rattle.std.proofs.Common.{◌≡◌, ℕ, ◌+◌, ◌<◌, List, [], ◌∷◌, ◌++◌, length, get_or, take, sym, ap, subst, ◌∙◌}
use Rattle.std.specs.Prelude.{All}
use Rattle.std.proofs.lemmas.List.{map_more}
use Rattle.std.proofs.lemmas.List.Elements.{All-push}
use Rattle.tcs_terms.specs.declared.payloads.ReadPart.{ReadPart}
use Rattle.tcs_terms.specs.Payloads.{IsReadPart}
use Rattle.store_client.specs.declared.parts.Part.{Part}
use Rattle.store_client.specs.Parts.{read_of, reads}
use Rattle.store_client.proofs.parts.reads.Goals as goal

read_more : (parts : List Part) (i : ℕ) (p : Part) (r : ReadPart) (before after : List ReadPart) → i < length parts → p ≡ get_or parts i p → r ≡ read_of p → before ≡ reads (take i parts)
    → after ≡ before ++ r ∷ [] → after ≡ reads (take (i + 1) parts)
read_more parts i p r before after within at is so_far grown =
    grown ∙ ap (λ (rs : List ReadPart). rs ++ r ∷ []) so_far ∙ ap (λ (x : ReadPart). reads (take i parts) ++ x ∷ []) (is ∙ ap read_of at) ∙ sym (map_more read_of parts i p within)

pub loop-part-preserved : goal.loop-part-preserved
loop-part-preserved c = record {
  copied = read_more c.args.parts.now c.loop-part.part-index c.part-item.result c.read_of.result c.loop-part.list.items c.push.new.self.items c.loop-part-test.true c.part-item.is c.read_of.ensures.read c.loop-part.invariant.copied c.in_ok-push.ensures.items;
  are = subst (All IsReadPart) (sym c.in_ok-push.ensures.items) (All-push IsReadPart c.loop-part.list.items c.read_of.result c.loop-part.invariant.are c.read_of.ensures.part);
}
