-- The object is read behind those before it.
use Rattle.std.proofs.Common.{◌≡◌, ℕ, ◌+◌, ◌<◌, List, [], ◌∷◌, ◌++◌, length, map, get_or, take, sym, ap, subst, ◌∙◌}
use Rattle.std.specs.Prelude.{All}
use Rattle.std.proofs.lemmas.List.{map_more}
use Rattle.std.proofs.lemmas.List.Elements.{All-push}
use Rattle.tcs_terms.specs.declared.payloads.ReadPart.{ReadPart}
use Rattle.tcs_terms.specs.Payloads.{IsReadPart}
use Rattle.backup_machine.specs.declared.objects.Kept.{Kept}
use Rattle.backup_machine.specs.Slices.{read_of}
use Rattle.backup_machine.proofs.slices.reads.Goals as goal

read_more : (kept : List Kept) (i : ℕ) (k : Kept) (r : ReadPart) (before after : List ReadPart) → i < length kept → k ≡ get_or kept i k → r ≡ read_of k → before ≡ map read_of (take i kept)
    → after ≡ before ++ r ∷ [] → after ≡ map read_of (take (i + 1) kept)
read_more kept i k r before after within at is so_far grown =
    grown ∙ ap (λ (rs : List ReadPart). rs ++ r ∷ []) so_far ∙ ap (λ (x : ReadPart). map read_of (take i kept) ++ x ∷ []) (is ∙ ap read_of at) ∙ sym (map_more read_of kept i k within)

pub loop-object-preserved : goal.loop-object-preserved
loop-object-preserved c = record {
  copied = read_more c.args.kept.now c.loop-object.object-index c.object-item.result c.read_of.result c.loop-object.list.items c.push.new.self.items c.loop-object-test.true c.object-item.is c.read_of.ensures.read c.loop-object.invariant.copied c.in_ok-push.ensures.items;
  are = subst (All IsReadPart) (sym c.in_ok-push.ensures.items) (All-push IsReadPart c.loop-object.list.items c.read_of.result c.loop-object.invariant.are c.read_of.ensures.part);
}
