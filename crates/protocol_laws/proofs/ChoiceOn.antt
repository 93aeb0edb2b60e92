-- What leader choice says of a stage or a configuration stays so.
use Rattle.std.proofs.Common.{ℕ, ◌<◌, sym, ◌∙◌, subst, arith}
use Rattle.tcs_terms.specs.declared.messages.Message.TheVariants.{ProbeAck}
use Rattle.tcs_terms.specs.Places.{Membership}
use Rattle.tcs_terms.specs.Setups.{Deployment}
use Rattle.protocol.specs.Records.{Stage}
use Rattle.protocol.specs.Records.Stage.{Idle, AskedLast, Probing, AskedLower, CasSent}
use Rattle.protocol.specs.Invariant.Choice.{StandsAt, IsLow, IsChosen, StageHolds}
use Rattle.protocol.specs.Invariant.Configurations.{ConfigurationsHold}
use Rattle.protocol.specs.Invariant.Logs.{Reached}
use Rattle.protocol.specs.Invariant.Time.{Moment}
use Rattle.protocol_laws.specs.Turn.{GrewTo, Onward}
use Rattle.protocol_laws.proofs.Lasting.{sent-on, never-on, skipped-on}

stands_at-on : (setup : Deployment) (t u : Moment) (shard epoch place : ℕ) → ConfigurationsHold setup u → Onward t u → StandsAt t shard epoch place → StandsAt u shard epoch place
stands_at-on setup t u shard epoch place c o s = record { some = s.some; below = s.below; between = λ q l m. skipped-on setup t u shard q c o (s.between q l m) }

low-on : (setup : Deployment) (t u : Moment) (epoch : ℕ) (probed : Membership) (name : ℕ) → ConfigurationsHold setup u → Onward t u → probed.epoch < epoch → IsLow t epoch probed name → IsLow u epoch probed name
low-on setup t u epoch probed name c o below l =
    let g : GrewTo u l.node = o.forth l.node l.is in
    record {
      member = l.member;
      node = g.new;
      is = g.is;
      named = g.grows.name ∙ l.named;
      promised = omega (arith, l.promised, g.grows.promised);
      never = λ r. never-on setup t u probed.epoch l.node c o l.is (omega (arith, below, l.promised)) (λ k. l.never (subst (λ n. Reached t probed.epoch n) l.named k)) (subst (λ n. Reached u probed.epoch n) (sym l.named) r);
    }

pub chosen-on : (setup : Deployment) (t u : Moment) (k : Membership) → ConfigurationsHold setup u → Onward t u → IsChosen t k → IsChosen u k
chosen-on setup t u k c o i = record {
  state = i.state;
  to = i.to;
  some = i.some;
  answered = sent-on t u k.leader i.to (ProbeAck k.epoch i.state) o i.answered;
  between = λ q l m. skipped-on setup t u k.shard q c o (i.between q l m);
}

pub stage-on : (setup : Deployment) (t u : Moment) (stage : Stage) → ConfigurationsHold setup u → Onward t u → StageHolds t stage → StageHolds u stage
stage-on setup t u Idle c o h = tt
stage-on setup t u (AskedLast shard want) c o h = tt
stage-on setup t u (Probing shard want epoch probed low) c o h =
    (h.0, stands_at-on setup t u shard epoch probed.epoch c o h.1, λ name s. low-on setup t u epoch probed name c o h.1.below (h.2 name s))
stage-on setup t u (AskedLower shard want epoch asked) c o h = stands_at-on setup t u shard epoch asked c o h
stage-on setup t u (CasSent config) c o h = chosen-on setup t u config c o h
