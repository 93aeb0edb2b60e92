-- What an event makes of the cast of a world is what it makes of the world, where nodes are numbered from 1 on.
use Rattle.std.proofs.Common.{◌≡◌, ℕ, suc, ◌+◌, ◌-◌, ◌<◌, ◌≤◌, Bool, true, false, cond, ◌==◌, List, [], ◌∷◌, ◌++◌, length, map, Option, Some, None, refl, sym, ap, subst, ◌∙◌, arith}
use Rattle.std.specs.Prelude.{slice_get, slice_set}
use Rattle.std.specs.List.{range_with_len}
use Rattle.std.proofs.lemmas.Bool.{eqb-true, eqb-false}
use Rattle.std.proofs.lemmas.Bool.Decides.{nat_tests}
use Rattle.std.proofs.lemmas.List.{append-nil}
use Rattle.tcs_terms.specs.declared.inputs.Event.{Event}
use Rattle.tcs_terms.specs.declared.inputs.Event.TheVariants.{Call, DeliverNumber, Stop}
use Rattle.tcs_terms.specs.declared.inputs.Input.{Input}
use Rattle.tcs_terms.specs.declared.inputs.Input.TheVariants as inputs
use Rattle.tcs_terms.specs.declared.inputs.Result1.{Result1}
use Rattle.tcs_terms.specs.declared.inputs.Result1.TheVariants.{Gone, Unsent}
use Rattle.tcs_terms.specs.Places.{is_among}
use Rattle.tcs_laws.specs.Certification.{Tests}
use Rattle.protocol.specs.Choices.{when}
use Rattle.protocol.specs.Records.{NodeRecord}
use Rattle.protocol.specs.Table.{step}
use Rattle.protocol.specs.World.{World, Sent, Happening, sent_by, node_of, put_node, give, deliver, deliver_if_sent, node_takes, message_of, passes, world_step}
use Rattle.protocol.proofs.Lists.{find-StandsIn}
use Rattle.protocol_laws.proofs.Came.{effect_name}
use Rattle.protocol_laws.proofs.EffectOf.{effect_of}
use Rattle.world.specs.Nodes.{AreNamed}
use Rattle.world.specs.Casts.{Cast, Doing, rests_with, taken, given, delivered, delivered_if_sent, stopping, does, MayReach}

-- the cast of a world
abbrev pub cast_of : ℕ → World → Cast
cast_of version w = record {
  peers = record { version = version; nodes = w.nodes };
  configs = w.configs;
  stopped = w.stopped;
}

-- the world after what was done
abbrev pub world_with : World → Doing → World
world_with w d = record {
  nodes = d.after.peers.nodes;
  configs = d.after.configs;
  messages = w.messages ++ sent_by d.from d.sends;
  stopped = d.after.stopped;
  history = w.history ++ d.notes;
}

-- what an event comes to, told of the cast
pub record Tells (w : World) (h : Happening) (d : Doing) : Type 0 where
  pub result : h.result ≡ d.result
  pub notes : h.notes ≡ d.notes
  pub sent : h.sent ≡ sent_by d.from d.sends
  pub after : h.after ≡ world_with w d

-- nodes that are numbered from a number on
abbrev NamedFrom : ℕ → List NodeRecord → Type 0
NamedFrom first nodes = map (λ n. n.name) nodes ≡ range_with_len first (length nodes)

record Heads (first : ℕ) (n : NodeRecord) (ns : List NodeRecord) : Type 0 where
  head : n.name ≡ first
  rest : NamedFrom (first + 1) ns

heads : (first : ℕ) (n : NodeRecord) (ns : List NodeRecord) → NamedFrom first (n ∷ ns) → Heads first n ns
heads first n ns h = record { head = cc h; rest = cc h }

-- the node of a name stands at its place
find_named : (first : ℕ) (nodes : List NodeRecord) (name : ℕ) → NamedFrom first nodes → first ≤ name
    → node_of nodes name ≡ slice_get nodes (name - first)
find_named first [] name h low = refl
find_named first (n ∷ ns) name h low = go (n.name == name) refl (λ more. find_named (first + 1) ns name (heads first n ns h).rest more)
  where
    k : Heads first n ns
    k = heads first n ns h

    go : (b : Bool) → (n.name == name) ≡ b → (first + 1 ≤ name → node_of ns name ≡ slice_get ns (name - (first + 1)))
        → cond b (Some n) (node_of ns name) ≡ slice_get (n ∷ ns) (name - first)
    go true e ih =
        let same : name - first ≡ 0 = omega (arith, eqb-true n.name name e, k.head) in
        ap (λ i. slice_get (n ∷ ns) i) (sym same)
    go false e ih =
        let apart = eqb-false n.name name e in
        let next : name - first ≡ suc (name - (first + 1)) = omega (arith, k.head, apart) in
        ih (omega (arith, k.head, apart)) ∙ ap (λ i. slice_get (n ∷ ns) i) (sym next)

-- the node of a name from 1 on
pub node_at : (nodes : List NodeRecord) (name : ℕ) → AreNamed nodes → 1 ≤ name → node_of nodes name ≡ slice_get nodes (name - 1)
node_at nodes name h low = find_named 1 nodes name h low

-- no node has a smaller name
find_none : (first : ℕ) (nodes : List NodeRecord) (name : ℕ) → NamedFrom first nodes → name < first → node_of nodes name ≡ None
find_none first [] name h low = refl
find_none first (n ∷ ns) name h low =
    let k = heads first n ns h in
    let apart : (n.name == name) ≡ false = grind (arith, nat_tests, k.head) in
    ap (λ b. cond b (Some n) (node_of ns name)) apart ∙ find_none (first + 1) ns name k.rest (omega arith)

-- no node is the service
pub no_node : (nodes : List NodeRecord) → AreNamed nodes → node_of nodes 0 ≡ None
no_node nodes h = find_none 1 nodes 0 h (omega arith)

put_none : (first : ℕ) (node : NodeRecord) (nodes : List NodeRecord) → NamedFrom first nodes → node.name < first → put_node node nodes ≡ nodes
put_none first node [] h low = refl
put_none first node (n ∷ ns) h low =
    let k = heads first n ns h in
    let apart : (n.name == node.name) ≡ false = grind (arith, nat_tests, k.head) in
    ap (λ b. cond b node n ∷ put_node node ns) apart ∙ ap (λ ms. n ∷ ms) (put_none (first + 1) node ns k.rest (omega arith))

-- to put a node is to write at its place
put_named : (first : ℕ) (node : NodeRecord) (nodes : List NodeRecord) → NamedFrom first nodes → first ≤ node.name
    → put_node node nodes ≡ slice_set nodes (node.name - first) node
put_named first node [] h low = refl
put_named first node (n ∷ ns) h low = go (n.name == node.name) refl (λ more. put_named (first + 1) node ns (heads first n ns h).rest more)
  where
    k : Heads first n ns
    k = heads first n ns h

    go : (b : Bool) → (n.name == node.name) ≡ b → (first + 1 ≤ node.name → put_node node ns ≡ slice_set ns (node.name - (first + 1)) node)
        → cond b node n ∷ put_node node ns ≡ slice_set (n ∷ ns) (node.name - first) node
    go true e ih =
        let same : node.name - first ≡ 0 = omega (arith, eqb-true n.name node.name e, k.head) in
        ap (λ ms. node ∷ ms) (put_none (first + 1) node ns k.rest (omega (arith, eqb-true n.name node.name e, k.head)))
        ∙ ap (λ i. slice_set (n ∷ ns) i node) (sym same)
    go false e ih =
        let apart = eqb-false n.name node.name e in
        let next : node.name - first ≡ suc (node.name - (first + 1)) = omega (arith, k.head, apart) in
        ap (λ ms. n ∷ ms) (ih (omega (arith, k.head, apart))) ∙ ap (λ i. slice_set (n ∷ ns) i node) (sym next)

when_tells : (w : World) (b : Bool) (h k : Happening) (d e : Doing) → (b ≡ true → Tells w h d) → (b ≡ false → Tells w k e) → Tells w (when b h k) (when b d e)
unfolding when
when_tells w true h k d e one other = one refl
when_tells w false h k d e one other = other refl

passes_tells : (version : ℕ) (w : World) (result : Result1) → Tells w (passes w result) (rests_with (cast_of version w) result)
passes_tells version w result = record {
  result = refl;
  notes = refl;
  sent = refl;
  after = λ i. record {
    nodes = w.nodes;
    configs = w.configs;
    messages = sym (append-nil w.messages) i;
    stopped = w.stopped;
    history = sym (append-nil w.history) i;
  };
}

give_tells : (tests : Tests) (version : ℕ) (w : World) (name : ℕ) (input : Input) → AreNamed w.nodes → 1 ≤ name
    → Tells w (give tests version w name input) (given tests (cast_of version w) name input)
unfolding give given
give_tells tests version w name input named low =
    when_tells w (is_among w.stopped name) _ _ _ _ (λ gone. passes_tells version w Gone)
    (λ runs. subst (λ o. Tells w (node_takes tests version w name input (node_of w.nodes name)) (taken tests (cast_of version w) name input o))
    (node_at w.nodes name named low) (go (node_of w.nodes name) refl))
  where
    go : (o : Option NodeRecord) → node_of w.nodes name ≡ o → Tells w (node_takes tests version w name input o) (taken tests (cast_of version w) name input o)
    go None e = passes_tells version w Gone
    go (Some node) e =
        let found : node.name ≡ name = eqb-true node.name name (find-StandsIn (λ n. n.name == name) w.nodes node e).1 in
        let kept = (step tests version node input).kept in
        let keeps : kept.name ≡ name = effect_name tests version node input _ (effect_of tests version node input) ∙ found in
        let placed : put_node kept w.nodes ≡ slice_set w.nodes (name - 1) kept =
        put_named 1 kept w.nodes named (omega (arith, keeps)) ∙ ap (λ n. slice_set w.nodes (n - 1) kept) keeps in
        record {
          result = refl;
          notes = refl;
          sent = refl;
          after = λ i. record {
            nodes = placed i;
            configs = w.configs;
            messages = w.messages ++ sent_by name (step tests version node input).sends;
            stopped = w.stopped;
            history = w.history ++ (step tests version node input).notes;
          };
        }

deliver_tells : (tests : Tests) (version : ℕ) (w : World) (sent : Sent) → AreNamed w.nodes
    → Tells w (deliver tests version w sent) (delivered tests (cast_of version w) sent)
unfolding deliver delivered
deliver_tells tests version w sent named =
    when_tells w (sent.to == 0) _ _ _ _
    (λ service. record { result = refl; notes = refl; sent = refl; after = refl })
    (λ node. let apart = eqb-false sent.to 0 node in give_tells tests version w sent.to (inputs.Deliver sent.from sent.message) named (omega (arith, apart)))

-- what an event comes to
pub does_tells : (tests : Tests) (version : ℕ) (w : World) (event : Event) → AreNamed w.nodes → MayReach event
    → Tells w (world_step tests version w event) (does tests (cast_of version w) w.messages event)
unfolding world_step does stopping
does_tells tests version w (Call name input) named may = give_tells tests version w name input named may.0
does_tells tests version w (DeliverNumber number) named may = go (message_of w.messages number)
  where
    go : (o : Option Sent) → Tells w (deliver_if_sent tests version w o) (delivered_if_sent tests (cast_of version w) o)
    go None = passes_tells version w Unsent
    go (Some sent) = deliver_tells tests version w sent named
does_tells tests version w (Stop name) named may =
    when_tells w (is_among w.stopped name) _ _ _ _ (λ gone. passes_tells version w Gone)
    (λ runs. record {
      result = refl;
      notes = refl;
      sent = refl;
      after = λ i. record {
        nodes = w.nodes;
        configs = w.configs;
        messages = sym (append-nil w.messages) i;
        stopped = w.stopped ++ name ∷ [];
        history = sym (append-nil w.history) i;
      };
    })
