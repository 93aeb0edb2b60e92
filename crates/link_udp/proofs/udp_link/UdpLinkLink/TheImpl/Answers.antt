-- A link that tells nothing of its calls but its counts is a link.
use Rattle.std.proofs.Common.{◌≡◌, ℕ, Result, Ok, Err, Option, Some, None, refl, ap, arith}
use Rattle.std.specs.Prelude.{OnOk, OnErr, IfErr, IsErrOf}
use Rattle.tcs_io.specs.Faults.{Rose, one_more}
use Rattle.tcs_link.specs.Told.{Told}
use Rattle.tcs_link.specs.declared.linking.LinkStop.{LinkStop}
use Rattle.tcs_link.specs.declared.linking.LinkStop.TheVariants.{Failed, OutOfMemory}
use Rattle.link_udp.specs.Counts.{Counts}
use Rattle.link_udp.proofs.udp_link.UdpLinkLink.TheImpl.Goals as goal

told_nothing : (before : Told) → None ≡ Some before → ⊥
told_nothing before told = cc

same_after_err : {X : Type 0} (r : Result X LinkStop) (a b : Option Told) → a ≡ b → OnErr r (a ≡ b)
same_after_err (Ok x) a b same = tt
same_after_err (Err e) a b same = same

rose : (before after : ℕ) → after ≡ one_more before → Rose before after
rose before after is = grind arith

no_want : {X : Type 0} (r : Result X LinkStop) → IfErr r (λ stop. stop ≡ Failed) → IsErrOf r OutOfMemory → ⊥
no_want (Ok x) cause is = cc
no_want (Err e) cause is = cc

sends_kept : {X : Type 0} (r : Result X LinkStop) (old new : Counts) → OnOk r (new ≡ old) → (IsErrOf r Failed → new ≡ record old { faults = one_more old.faults })
    → (IsErrOf r OutOfMemory → new ≡ old) → new.failed_sends ≡ old.failed_sends
sends_kept (Ok x) old new ok failed memory = ap (λ (c : Counts). c.failed_sends) ok
sends_kept (Err Failed) old new ok failed memory = ap (λ (c : Counts). c.failed_sends) (failed refl)
sends_kept (Err OutOfMemory) old new ok failed memory = ap (λ (c : Counts). c.failed_sends) (memory refl)

faults_kept : {X : Type 0} (r : Result X LinkStop) (old new : Counts) → OnOk r (new ≡ old) → (IsErrOf r Failed → new ≡ record old { failed_sends = one_more old.failed_sends })
    → IfErr r (λ stop. stop ≡ Failed) → new.faults ≡ old.faults
faults_kept (Ok x) old new ok failed cause = ap (λ (c : Counts). c.faults) ok
faults_kept (Err e) old new ok failed cause = ap (λ (c : Counts). c.faults) (failed (ap Err cause))

pub attach-tells : goal.attach-tells
attach-tells g c = record {
  attached = λ before told. absurd (told_nothing before told);
  kept = same_after_err c.result None None refl;
  untold = λ told. told;
  count = c.ensures.count;
  limit = c.ensures.limit;
  sends = sends_kept c.result c.args.self.now c.new.self.now c.ensures.ok c.ensures.failed c.ensures.memory;
  failed = λ stop. rose c.args.self.now.faults c.new.self.now.faults (ap (λ (c : Counts). c.faults) (c.ensures.failed stop));
  memory = λ stop. ap (λ (c : Counts). c.faults) (c.ensures.memory stop);
}

pub send-tells : goal.send-tells
send-tells g c = record {
  handed = λ before told. absurd (told_nothing before told);
  lost = λ before told. absurd (told_nothing before told);
  kept = λ stop. refl;
  untold = λ told. told;
  faults = faults_kept c.result c.args.self.now c.new.self.now c.ensures.ok c.ensures.failed c.ensures.cause;
  count = c.ensures.count;
  limit = c.ensures.limit;
  failed = λ stop. rose c.args.self.now.failed_sends c.new.self.now.failed_sends (ap (λ (c : Counts). c.failed_sends) (c.ensures.failed stop));
  memory = λ stop. absurd (no_want c.result c.ensures.cause stop);
}

pub poll-tells : goal.poll-tells
poll-tells g c = record {
  within = c.ensures.within;
  polled = λ before told. absurd (told_nothing before told);
  kept = same_after_err c.result None None refl;
  untold = λ told. told;
  count = c.ensures.count;
  limit = c.ensures.limit;
  sends = sends_kept c.result c.args.self.now c.new.self.now c.ensures.ok c.ensures.failed (λ stop. absurd (no_want c.result c.ensures.cause stop));
  failed = λ stop. rose c.args.self.now.faults c.new.self.now.faults (ap (λ (c : Counts). c.faults) (c.ensures.failed stop));
  memory = λ stop. absurd (no_want c.result c.ensures.cause stop);
}
