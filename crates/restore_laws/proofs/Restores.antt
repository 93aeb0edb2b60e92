-- After the run, what was kept is there again.
use Rattle.std.proofs.Common.{◌≡◌, ◌≤◌, arith, List, [], length, map, fold, sym, ap, refl, ◌∙◌}
use Rattle.tcs_terms.specs.declared.inputs.Event.{Event}
use Rattle.tcs_terms.specs.declared.inputs.Note.{Note}
use Rattle.tcs_terms.specs.Payloads.{Accesses}
use Rattle.tcs_terms.specs.declared.ids.TxId.{TxId}
use Rattle.cert_serial.specs.Serial.{serial}
use Rattle.protocol.proofs.OpenAll.{open_all}
use Rattle.protocol.specs.History.{order_of, payloads_of}
use Rattle.protocol.specs.OneCopy.{copy_after}
use Rattle.protocol.specs.Run.{Ran, ran}
use Rattle.protocol.specs.World.{World}
use Rattle.protocol.specs.Worked.Words.{acted}
use Rattle.protocol_laws.proofs.RunsOn.{ran-run}
use Rattle.backup_machine.specs.declared.objects.Kept.{Kept}
use Rattle.restore_laws.specs.Restored.{IsRestored, restored_history}
use Rattle.restore_laws.specs.Schedules.{CanBeRestored, payload_of, restored_setup, restored_events}
use Rattle.restore_laws.proofs.Copies.{copied}
use Rattle.restore_laws.proofs.Histories.{notes_from, order_is, payloads_are}
use Rattle.restore_laws.proofs.Restoring.{CameTo, IsBetween, all_back, goes_on}
use Rattle.restore_laws.proofs.Worlds.{world_with}

begins : (events : List Event) → ran serial restored_setup events ≡ fold goes_on (record { results = []; world = world_with 1 [] [] [] [] }) events
unfolding open_all
begins events = refl

nothing_yet : (kept : List Kept) → CanBeRestored kept → IsBetween 0 [] [] kept
nothing_yet kept c = record {
  last = refl;
  earlier = λ m r less s. absurd s;
  clear = λ r k s there. absurd s;
  counted = refl;
  few = let few : length kept ≤ 4096 = c.few in omega (arith, few);
  ascend = c.ascend;
}

pub restores : (kept : List Kept) → CanBeRestored kept → IsRestored kept
restores kept c =
    let came : CameTo (fold goes_on (record { results = []; world = world_with 1 [] [] [] [] }) (restored_events kept)) (map (λ (e : Event). acted) (restored_events kept)) (notes_from 0 kept)
    = all_back 0 [] [] [] [] kept (nothing_yet kept c) in
    let start = begins (restored_events kept) in
    let history : restored_history kept ≡ notes_from 0 kept =
    ap (λ (w : World). w.history) (sym (ran-run serial restored_setup (restored_events kept))) ∙ ap (λ (r : Ran). r.world.history) start ∙ came.history_is in
    let payloads : payloads_of (restored_history kept) (order_of (restored_history kept)) ≡ map payload_of kept =
    ap (λ (h : List Note). payloads_of h (order_of h)) history ∙ ap (λ (ts : List TxId). payloads_of (notes_from 0 kept) ts) (order_is kept) ∙ payloads_are 0 kept in
    record {
      acts = ap (λ (r : Ran). r.results) start ∙ came.results_are;
      order = ap order_of history ∙ order_is kept;
      payloads = payloads;
      copy = λ name. ap (λ (ps : List Accesses). copy_after ps name) payloads ∙ copied kept name c.ascend;
    }
