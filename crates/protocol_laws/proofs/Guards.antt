-- How a rule is read backwards: by cases on its guards, and by what a rule that does not act comes to.
use Rattle.std.proofs.Common.{◌≡◌, ℕ, Bool, true, false, not, nat_lt, List, [], ◌++◌, Option, Some, None, is_none, append-nil, ◌∙◌, ap, subst, refl}
use Rattle.tcs_terms.specs.declared.inputs.Handled.{Handled}
use Rattle.tcs_terms.specs.declared.inputs.Input.{Input}
use Rattle.tcs_terms.specs.declared.inputs.Input.TheVariants as inputs
use Rattle.tcs_terms.specs.declared.inputs.Note.{Note}
use Rattle.tcs_terms.specs.declared.messages.Message.{Message}
use Rattle.tcs_terms.specs.declared.messages.Outgoing.{Outgoing}
use Rattle.tcs_terms.specs.Places.{Membership}
use Rattle.tcs_laws.specs.Certification.{Tests}
use Rattle.protocol.specs.Choices.{when}
use Rattle.protocol.specs.Notices.{notice_of, with_notice}
use Rattle.protocol.specs.Outcomes.{Out, tells, rests, refusal, refuses}
use Rattle.protocol.specs.ClientRules.{probes}
use Rattle.protocol.specs.Records.{Stage, NodeRecord}
use Rattle.protocol.specs.Probing.{prober_epoch}
use Rattle.protocol.specs.Table.{noticed}
use Rattle.protocol.specs.Views.{epoch_of, view_of}
use Rattle.wire_frame.specs.Spelling.{kind_of}
use Rattle.protocol_laws.specs.Effect.{is_answered, notices_to, notices_for, IsMark, Viewed, Wanted, Tells, Effect, Rests}

-- a choice, by cases on its test
pub by_guard : {A : Type 0} (P : A → Type 0) (b : Bool) {x y : A} → (b ≡ true → P x) → (b ≡ false → P y) → P (when b x y)
unfolding when
by_guard P true f g = f refl
by_guard P false f g = g refl

-- what is made of an option, by cases on it
pub by_option : {A X : Type 0} (P : A → Type 0) (f : Option X → A) (o : Option X) → (o ≡ None → P (f None)) → ((x : X) → o ≡ Some x → P (f (Some x))) → P (f o)
by_option P f None g h = g refl
by_option P f (Some x) g h = h x refl

pub not-true : (b : Bool) → not b ≡ true → b ≡ false
not-true true h = absurd (cc h)
not-true false h = refl

pub is_none-None : {X : Type 0} (o : Option X) → is_none o ≡ true → o ≡ None
is_none-None None h = refl
is_none-None (Some x) h = absurd (cc h)

-- what a node does with a message whose sender hears where it does not act
abbrev pub Receives : Tests → ℕ → NodeRecord → ℕ → ℕ → Message → Out NodeRecord → Type 0
Receives tests version node from kind message out = Effect tests version node (inputs.Deliver from message) (noticed node from kind out)

-- a rule that acts sends no notice
pub no_notice : {A : Type 0} (P : Out A → Type 0) (from kind full_mark : ℕ) (kept : A) (sends : List Outgoing) (noted : List Note)
    → P (tells kept sends noted) → P (with_notice from kind full_mark (tells kept sends noted))
unfolding with_notice
no_notice P from kind full_mark kept sends noted h = h

-- an input that is refused against a mark tells that mark
pub refusal-tells : (Mark : ℕ → Type 0) (epoch mark : ℕ) → Mark mark → Tells Mark (refusal epoch mark)
unfolding refusal
refusal-tells Mark epoch mark m = by_guard {A = Handled} (Tells Mark) (nat_lt epoch mark) (λ e. m) (λ e. m)

-- whether the sender of a message of this kind hears of it
pub record IsKind (message : Message) (number : ℕ) : Type 0 where
  pub answered : is_answered message ≡ true
  pub kind : kind_of message ≡ number

-- what is sent to the sender of a message that is not acted on
pub notices-sent : (from : ℕ) (message : Message) (kind : ℕ) (answer : Handled) (full_mark : ℕ) → IsKind message kind → notice_of answer from kind full_mark ++ [] ≡ notices_to from message answer full_mark
notices-sent from message kind answer full_mark k =
    append-nil (notice_of answer from kind full_mark) ∙ rw (k.answered, k.kind) refl

-- a rule that does not act
pub rests_quietly : (tests : Tests) (version : ℕ) (node : NodeRecord) (input : Input) (answer : Handled) → Tells (IsMark node) answer → [] ≡ notices_for input answer node.promised
    → Effect tests version node input (rests answer node)
rests_quietly tests version node input answer m e = Rests input answer [] (record { mark = m; only = e })

-- the same, with a notice
pub rests_noticed : (tests : Tests) (version : ℕ) (node : NodeRecord) (from kind : ℕ) (message : Message) (answer : Handled) → Tells (IsMark node) answer → IsKind message kind
    → Receives tests version node from kind message (rests answer node)
unfolding with_notice
rests_noticed tests version node from kind message answer m k =
    Rests (inputs.Deliver from message) answer (notice_of answer from kind node.promised ++ []) (record { mark = m; only = notices-sent from message kind answer node.promised k })

-- a message of an epoch that is refused against a mark
pub refuses_noticed : (tests : Tests) (version : ℕ) (node : NodeRecord) (from kind : ℕ) (message : Message) (epoch mark : ℕ) → IsMark node mark → IsKind message kind
    → Receives tests version node from kind message (refuses epoch mark node)
refuses_noticed tests version node from kind message epoch mark m k =
    rests_noticed tests version node from kind message (refusal epoch mark) (refusal-tells (IsMark node) epoch mark m) k

-- the prober's rule does not act, whatever its stage is
pub prober_rests : (tests : Tests) (version : ℕ) (node : NodeRecord) (input : Input) (answer : Handled) (stage : Stage) → node.prober ≡ stage → Tells (IsMark node) answer → [] ≡ notices_for input answer node.promised
    → Effect tests version node input (probes node (rests answer stage))
prober_rests tests version node input answer stage e m s =
    subst (λ s. Effect tests version node input (probes node (rests answer s))) e (rests_quietly tests version node input answer m s)

-- the same, with a notice
pub prober_refuses : (tests : Tests) (version : ℕ) (node : NodeRecord) (from kind : ℕ) (message : Message) (epoch mark : ℕ) (stage : Stage) → node.prober ≡ stage → IsMark node mark → IsKind message kind
    → Receives tests version node from kind message (probes node (refuses epoch mark stage))
prober_refuses tests version node from kind message epoch mark stage e m k =
    subst (λ s. Receives tests version node from kind message (probes node (refuses epoch mark s))) e (refuses_noticed tests version node from kind message epoch mark m k)

-- the epoch of a view is a mark
pub view-mark : (node : NodeRecord) (shard : ℕ) (view : Membership) → view_of node.coordinator.views shard ≡ Some view → IsMark node view.epoch
view-mark node shard view e = subst (IsMark node) (ap epoch_of e) (Viewed shard)

-- the epoch that the prober wants is a mark
pub stage-mark : (node : NodeRecord) (stage : Stage) → node.prober ≡ stage → IsMark node (prober_epoch stage)
stage-mark node stage e = subst (λ s. IsMark node (prober_epoch s)) e Wanted
