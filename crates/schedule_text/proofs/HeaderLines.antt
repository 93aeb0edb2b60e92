-- The lines of a setup are read as its parts, in the header of a schedule and of a script.
use Rattle.std.proofs.Common.{◌≡◌, ℕ, suc, ◌+◌, ◌^◌, ◌<◌, ◌≤◌, Bool, true, not, List, [], ◌∷◌, ◌++◌, length, map, All, Option, None, Ok, refl, sym, ◌∙◌, ap, subst, append_assoc, arith}
use Rattle.std.specs.Prelude.{nat_le, ◌==◌, ◌||◌, ◌&&◌}
use Rattle.std.specs.List.{list_all, AllByRecursion}
use Rattle.std.proofs.lemmas.Bool.{eqb-true}
use Rattle.std.proofs.lemmas.Bool.Decides.{nat_tests}
use Rattle.std.proofs.lemmas.List.{append-nil, length-append}
use Rattle.tcs_terms.specs.declared.limits.TheConstants.{MAX_SHARDS, MAX_NODES}
use Rattle.tcs_terms.specs.declared.faults.BadSetup.TheVariants as faults
use Rattle.tcs_terms.specs.Places.{Membership, IsMembership}
use Rattle.tcs_terms.specs.SetupFaults.{may_be_nodes, firsts_from}
use Rattle.tcs_terms.specs.Setups.{Deployment, IsDeployment, is_node_of, is_first}
use Rattle.text_words.specs.Words.{words_of}
use Rattle.tcs_terms.proofs.BoolLaws.{left_of, right_of, not_true, passed}
use Rattle.tcs_terms.proofs.SetupLaws.{no_fault_of_a_deployment}
use Rattle.schedule_text.specs.declared.places.Place.{Place}
use Rattle.schedule_text.specs.declared.places.Place.TheVariants as places
use Rattle.schedule_text.specs.Text.{first_lines, node_lines, config_line}
use Rattle.schedule_text.specs.Header.{Head, head_at, no_parts}
use Rattle.schedule_text.proofs.EventSpellings.{small_nodes}
use Rattle.schedule_text.proofs.HeaderReadings.{in_header, head_lines}
use Rattle.schedule_text.proofs.HeaderSpellings.{ConfigFits, version_again, certifier_again, shards_again, node_again, config_again, among_is}
use Rattle.schedule_text.proofs.LineWords.{words_of_version, words_of_certifier, words_of_shards, words_of_node, words_of_config}
use Rattle.schedule_text.proofs.NodeReadings.{small_node}

-- ---- lines of a header, one after the other

abbrev pub standing : Place → Deployment → Head
standing place d = record { place = place; setup = d }

-- each of these lines is read as one of the header, and not as its last
abbrev pub Heads : Option ℕ → Head → List (List ℕ) → Head → Type 0
Heads only h [] k = h ≡ k
Heads only h (line ∷ lines) k = (m : Head) × (in_header h.place ≡ true) × (head_at only h.place h.setup (words_of line) ≡ Ok (None, m)) × Heads only m lines k

heads_append : (only : Option ℕ) (xs ys : List (List ℕ)) (h k m : Head) → Heads only h xs k → Heads only k ys m → Heads only h (xs ++ ys) m
heads_append only [] ys h k m p q = subst (λ (x : Head). Heads only x ys m) (sym p) q
heads_append only (x ∷ xs) ys h k m p q = (p.0, p.1, p.2, heads_append only xs ys p.0 k m p.3 q)

-- ---- the lines before the nodes

-- the parts of the setup before its nodes
abbrev begun_setup : Deployment → Deployment
begun_setup d = record { version = d.version; rule = d.rule; shards = d.shards; nodes = []; configs = [] }

known_version : (n : ℕ) → ((n == 1) || (n == 2)) ≡ true → (1 ≤ n) × (n ≤ 2)
known_version n h = (grind (arith, nat_tests), grind (arith, nat_tests))

first_heads : (only : Option ℕ) (d : Deployment) → IsDeployment d → Heads only (standing places.Version no_parts) (first_lines d) (standing places.Parts (begun_setup d))
first_heads only d is =
    let some = is.some_shards in
    let few = is.few_shards in
    let known = known_version d.version is.version in
    let versioned : Deployment = record no_parts { version = d.version } in
    let ruled : Deployment = record versioned { rule = d.rule } in (
      standing places.Certifier versioned,
      refl,
      ap (head_at only places.Version no_parts) (words_of_version d.version (omega (arith, known.1))) ∙ version_again only no_parts d.version known.0 known.1,
      (
        standing places.Shards ruled,
        refl,
        ap (head_at only places.Certifier versioned) (words_of_certifier d.rule) ∙ certifier_again only versioned d.rule,
        (
          standing places.Parts (begun_setup d),
          refl,
          ap (head_at only places.Shards ruled) (words_of_shards d.shards (omega arith)) ∙ shards_again only ruled d.shards some few,
          refl,
        ),
      ),
    )

-- ---- nodes

abbrev is_shard_of : ℕ → ℕ → Bool
is_shard_of shards s = nat_le 1 s && nat_le s shards

nodes_heads : (ss : List ℕ) (only : Option ℕ) (d : Deployment) (n : ℕ) → d.configs ≡ [] → n ≡ length d.nodes + 1 → length d.nodes + length ss ≤ MAX_NODES
    → list_all (is_shard_of d.shards) ss ≡ true → d.shards < 2 ^ 64
    → Heads only (standing places.Parts d) (node_lines n ss) (standing places.Parts (record d { nodes = d.nodes ++ ss }))
nodes_heads [] only d n none is room each small = ap (λ (ns : List ℕ). standing places.Parts (record d { nodes = ns })) (sym (append-nil d.nodes))
nodes_heads (s ∷ ss) only d n none is room each small =
    let fits = left_of (is_shard_of d.shards s) (list_all (is_shard_of d.shards) ss) each in
    let low : 1 ≤ s = grind (arith, nat_tests) in
    let high : s ≤ d.shards = grind (arith, nat_tests) in
    let next : Deployment = record d { nodes = d.nodes ++ s ∷ [] } in
    let many : length (d.nodes ++ s ∷ []) ≡ length d.nodes + 1 = length-append d.nodes (s ∷ []) in
    let others = nodes_heads ss only next (n + 1) none (omega arith) (omega arith) (right_of (is_shard_of d.shards s) (list_all (is_shard_of d.shards) ss) each) small in
    let joined : ◌≡◌ {A = List ℕ} ((d.nodes ++ s ∷ []) ++ ss) (d.nodes ++ s ∷ ss) = append_assoc d.nodes (s ∷ []) ss in (
      standing places.Parts next,
      refl,
      ap (head_at only places.Parts d) (words_of_node n s (omega arith) (omega arith)) ∙ node_again only d n s none is (omega arith) low high small,
      subst (λ (ns : List ℕ). Heads only (standing places.Parts next) (node_lines (n + 1) ss) (standing places.Parts (record d { nodes = ns }))) joined others,
    )

-- ---- configurations

-- the setup has room for these configurations
record Configs (d : Deployment) (cs : List Membership) : Type 0 where
  each : AllByRecursion IsMembership cs
  firsts : firsts_from d.nodes (length d.configs + 1) cs ≡ true
  room : length d.configs + length cs ≤ d.shards
  some : 1 ≤ length d.nodes
  few : length d.nodes ≤ MAX_NODES
  shards : d.shards ≤ MAX_SHARDS

config_head : (only : Option ℕ) (d : Deployment) (c : Membership) → ConfigFits d c
    → head_at only places.Parts d (words_of (config_line c)) ≡ Ok (None, standing places.Parts (record d { configs = d.configs ++ c ∷ [] }))
config_head only d c fits =
    let few = fits.few in
    let shards = fits.shards in
    let within = fits.within in
    let each = right_of ((c.epoch == 1) && (c.by == 0)) (list_all (is_node_of d.nodes c.shard) c.members) fits.first in
    let leads = among_is d.nodes c.shard c.members c.leader each fits.is.leads in
    let leader = small_node d.nodes c.leader (omega arith) (left_of _ _ leads) in
    ap (head_at only places.Parts d) (words_of_config c (omega arith) leader (small_nodes d.nodes c.shard c.members (omega arith) each)) ∙ config_again only d c fits

configs_heads : (cs : List Membership) (only : Option ℕ) (d : Deployment) → Configs d cs
    → Heads only (standing places.Parts d) (map config_line cs) (standing places.Parts (record d { configs = d.configs ++ cs }))
configs_heads [] only d h = ap (λ (cs : List Membership). standing places.Parts (record d { configs = cs })) (sym (append-nil d.configs))
configs_heads (c ∷ cs) only d h =
    let room = h.room in
    let numbered = left_of (c.shard == length d.configs + 1) (is_first d.nodes c && firsts_from d.nodes (length d.configs + 1 + 1) cs) h.firsts in
    let others = right_of (c.shard == length d.configs + 1) (is_first d.nodes c && firsts_from d.nodes (length d.configs + 1 + 1) cs) h.firsts in
    let number = eqb-true c.shard (length d.configs + 1) numbered in
    let next : Deployment = record d { configs = d.configs ++ c ∷ [] } in
    let many : length (d.configs ++ c ∷ []) ≡ length d.configs + 1 = length-append d.configs (c ∷ []) in
    let fits : ConfigFits d c = record {
      is = h.each.0;
      next = number;
      within = omega arith;
      first = left_of (is_first d.nodes c) (firsts_from d.nodes (length d.configs + 1 + 1) cs) others;
      few = h.few;
      some = h.some;
      shards = h.shards;
    } in
    let rest : Configs next cs = record {
      each = h.each.1;
      firsts = rw many (right_of (is_first d.nodes c) (firsts_from d.nodes (length d.configs + 1 + 1) cs) others);
      room = omega arith;
      some = h.some;
      few = h.few;
      shards = h.shards;
    } in
    let joined : ◌≡◌ {A = List Membership} ((d.configs ++ c ∷ []) ++ cs) (d.configs ++ c ∷ cs) = append_assoc d.configs (c ∷ []) cs in (
      standing places.Parts next,
      refl,
      config_head only d c fits,
      subst (λ (ds : List Membership). Heads only (standing places.Parts next) (map config_line cs) (standing places.Parts (record d { configs = ds }))) joined (configs_heads cs only next rest),
    )

-- ---- the header of a setup, without its last line

-- an indexed fact of each, and the same by recursion
each_of : {X : Type 0} (P : X → Type 0) (xs : List X) → All P xs → AllByRecursion P xs
each_of P [] h = tt
each_of P (x ∷ xs) h = (h 0 x (omega arith), each_of P xs (λ k d lt. h (suc k) d (omega arith)))

abbrev with_nodes : Deployment → Deployment
with_nodes d = record { version = d.version; rule = d.rule; shards = d.shards; nodes = d.nodes; configs = [] }

pub firsts_of : (d : Deployment) → IsDeployment d → (length d.configs ≡ d.shards) × (firsts_from d.nodes 1 d.configs ≡ true)
firsts_of d is =
    let some_shards = is.some_shards in
    let few_shards = is.few_shards in
    let some_nodes = is.some_nodes in
    let few_nodes = is.few_nodes in
    let none = no_fault_of_a_deployment d is in
    let a = passed (not ((d.version == 1) || (d.version == 2))) _ _ none in
    let b = passed (not (nat_le 1 d.shards && nat_le d.shards MAX_SHARDS)) _ _ a.1 in
    let c = passed (not (may_be_nodes d.shards d.nodes)) _ _ b.1 in
    let e = passed (not ((length d.configs == d.shards) && firsts_from d.nodes 1 d.configs)) faults.Configs None c.1 in
    let both_hold = not_true ((length d.configs == d.shards) && firsts_from d.nodes 1 d.configs) e.0 in
    (eqb-true _ _ (left_of (length d.configs == d.shards) (firsts_from d.nodes 1 d.configs) both_hold), right_of (length d.configs == d.shards) (firsts_from d.nodes 1 d.configs) both_hold)

setup_configs : (d : Deployment) → IsDeployment d → Configs (with_nodes d) d.configs
setup_configs d is =
    let firsts = firsts_of d is in
    record { each = each_of IsMembership d.configs is.configs; firsts = firsts.1; room = omega (arith, firsts.0); some = is.some_nodes; few = is.few_nodes; shards = is.few_shards }

pub header_heads : (only : Option ℕ) (d : Deployment) → IsDeployment d → Heads only (standing places.Version no_parts) (head_lines places.Parts d) (standing places.Parts d)
header_heads only d is =
    let few = is.few_nodes in
    let shards = is.few_shards in
    heads_append only (first_lines d) (node_lines 1 d.nodes ++ map config_line d.configs) (standing places.Version no_parts) (standing places.Parts (begun_setup d)) (standing places.Parts d) (first_heads only d is)
    (heads_append only (node_lines 1 d.nodes) (map config_line d.configs) (standing places.Parts (begun_setup d)) (standing places.Parts (with_nodes d)) (standing places.Parts d)
    (nodes_heads d.nodes only (begun_setup d) 1 refl refl (omega arith) is.nodes (omega arith)) (configs_heads d.configs only (with_nodes d) (setup_configs d is)))
