-- Nodes that are read are those that are printed, and what is printed is read again.
use Rattle.std.proofs.Common.{◌≡◌, ℕ, zero, suc, ◌^◌, ◌<◌, ◌≤◌, Bool, true, false, cond, List, [], ◌∷◌, length, map, Ok, Err, refl, ◌∙◌, ap, subst, arith}
use Rattle.std.specs.Prelude.{nat_lt, ◌==◌, decimal}
use Rattle.std.specs.List.{list_all}
use Rattle.std.proofs.lemmas.Bool.{eqb-true}
use Rattle.std.proofs.lemmas.Bool.Decides.{nat_tests}
use Rattle.text_words.specs.declared.words.Reason.TheVariants as reasons
use Rattle.tcs_terms.specs.Order.{ascends}
use Rattle.tcs_terms.specs.Setups.{has_node, is_node_of}
use Rattle.tcs_terms.proofs.BoolLaws.{both, left_of, right_of}
use Rattle.std.proofs.lemmas.List.{nil_from_length}
use Rattle.schedule_text.specs.Words.{next_node_at, nodes_at}
use Rattle.text_words.specs.PayloadWords.{◌>>=◌}
use Rattle.text_words.proofs.Steps.{bind_ok, ok_is}
use Rattle.schedule_text.proofs.NumberReadings.{next_node_takes, next_node_again}

pub record Nodes (nodes : List ℕ) (shard room last : ℕ) (words : List (List ℕ)) (ns : List ℕ) : Type 0 where
  pub spelled : words ≡ map decimal ns
  pub few : length ns ≤ room
  pub each : list_all (is_node_of nodes shard) ns ≡ true
  pub ascend : ascends (last ∷ ns) ≡ true

none_taken : (nodes : List ℕ) (shard room last : ℕ) (words : List (List ℕ)) (ns : List ℕ) → words ≡ [] → [] ≡ ns → Nodes nodes shard room last words ns
none_taken nodes shard room last words ns none e =
    subst (Nodes nodes shard room last words) e (record { spelled = none; few = omega arith; each = refl; ascend = refl })

pub nodes_take : (nodes : List ℕ) (shard room last : ℕ) (words : List (List ℕ)) (ns : List ℕ) → nodes_at nodes shard room last words ≡ Ok ns → Nodes nodes shard room last words ns
unfolding nodes_at
nodes_take nodes shard zero last [] ns h = none_taken nodes shard 0 last [] ns refl (ok_is [] ns h)
nodes_take nodes shard zero last (w ∷ ws) ns h = go (length w == 0) h where
  go : (b : Bool) → cond b (Err reasons.Word) (Err reasons.Many) ≡ Ok ns → Nodes nodes shard 0 last (w ∷ ws) ns
  go true e = absurd cc
  go false e = absurd cc
nodes_take nodes shard (suc room) last words ns h = go (λ m ws xs e. nodes_take nodes shard room m ws xs e) (length words == 0) refl h where
  go : ((m : ℕ) (ws : List (List ℕ)) (xs : List ℕ) → nodes_at nodes shard room m ws ≡ Ok xs → Nodes nodes shard room m ws xs)
      → (b : Bool) → (length words == 0) ≡ b
      → cond b (Ok []) (next_node_at nodes shard last words >>= λ n. nodes_at nodes shard room n.0 n.1 >>= λ others. Ok (n.0 ∷ others)) ≡ Ok ns
      → Nodes nodes shard (suc room) last words ns
  go others true e k = none_taken nodes shard (suc room) last words ns (nil_from_length words (eqb-true _ _ e)) (ok_is [] ns k)
  go others false e k =
      let a = bind_ok (next_node_at nodes shard last words) _ ns k in
      let b = bind_ok (nodes_at nodes shard room a.0.0 a.0.1) _ ns a.2 in
      let t = next_node_takes nodes shard last words a.0 a.1 in
      let rest = others a.0.0 a.0.1 b.0 b.1 in
      let few = rest.few in
      subst (Nodes nodes shard (suc room) last words) (ok_is (a.0.0 ∷ b.0) ns b.2) (record {
        spelled = t.word ∙ ap (λ (v : List (List ℕ)). decimal a.0.0 ∷ v) rest.spelled;
        few = omega arith;
        each = both (is_node_of nodes shard a.0.0) (list_all (is_node_of nodes shard) b.0) (left_of (is_node_of nodes shard a.0.0) (nat_lt last a.0.0) t.passes) rest.each;
        ascend = both (nat_lt last a.0.0) (ascends (a.0.0 ∷ b.0)) (right_of (is_node_of nodes shard a.0.0) (nat_lt last a.0.0) t.passes) rest.ascend;
      })

pub small_node : (nodes : List ℕ) (n : ℕ) → length nodes < 2 ^ 64 → has_node nodes n ≡ true → n < 2 ^ 64
small_node nodes n few has = grind (arith, nat_tests)

pub nodes_again : (nodes : List ℕ) (shard room last : ℕ) (ns : List ℕ) → length nodes < 2 ^ 64 → length ns ≤ room → list_all (is_node_of nodes shard) ns ≡ true → ascends (last ∷ ns) ≡ true
    → nodes_at nodes shard room last (map decimal ns) ≡ Ok ns
unfolding nodes_at
nodes_again nodes shard zero last [] bound few each ascend = refl
nodes_again nodes shard zero last (n ∷ ns) bound few each ascend = absurd (omega arith)
nodes_again nodes shard (suc room) last [] bound few each ascend = refl
nodes_again nodes shard (suc room) last (n ∷ ns) bound few each ascend =
    let is = left_of (is_node_of nodes shard n) (list_all (is_node_of nodes shard) ns) each in
    let above = left_of (nat_lt last n) (ascends (n ∷ ns)) ascend in
    let small = small_node nodes n bound (left_of (has_node nodes n) _ is) in
    let others = nodes_again nodes shard room n ns bound (omega arith) (right_of (is_node_of nodes shard n) (list_all (is_node_of nodes shard) ns) each) (right_of (nat_lt last n) (ascends (n ∷ ns)) ascend) in
    let some : (length (map decimal (n ∷ ns)) == 0) ≡ false = grind (arith, nat_tests) in
    rw (some, next_node_again nodes shard last n (map decimal ns) small is above, others) refl
