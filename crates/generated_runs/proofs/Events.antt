-- The events of a generated run: it is the run of them.
use Rattle.std.proofs.Common.{◌≡◌, ℕ, zero, suc, refl, sym, ap, ◌∙◌}
use Rattle.cert_serial.specs.Serial.{serial}
use Rattle.tcs_terms.specs.declared.inputs.Event.{Event}
use Rattle.protocol.specs.Limit.{Progress, Step, limited_run, limited_step}
use Rattle.protocol_laws.proofs.RunsOn.{limited_run-on}
use Rattle.generated_runs.specs.Setup.{setup}
use Rattle.generated_runs.specs.Runs.{generated, events_until, next_event, serial_step}

step_is : (p : Progress) (event : Event) → serial_step p event ≡ limited_step serial setup.version p event
unfolding serial_step setup
step_is p event = refl

pub run_is : (seed count place : ℕ) → (generated seed count place).progress ≡ limited_run serial setup (events_until seed count place)
unfolding generated events_until limited_run
run_is seed count zero = refl
run_is seed count (suc place) =
    let event = next_event count (suc place) (generated seed count place) in
    ap (λ (s : Step). s.after) (step_is (generated seed count place).progress event)
    ∙ ap (λ (p : Progress). (limited_step serial setup.version p event).after) (run_is seed count place)
    ∙ sym (limited_run-on serial setup (events_until seed count place) event)
