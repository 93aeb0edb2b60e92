-- A line of the header that is read is the next one of a setup.
use Rattle.std.proofs.Common.{◌≡◌, ℕ, zero, suc, ◌+◌, ◌^◌, ◌<◌, ◌≤◌, Bool, true, false, not, cond, is_none, List, [], ◌∷◌, ◌++◌, length, map, All, Option, Some, None, Ok, Err, refl, sym, ◌∙◌, ap, subst, append_assoc, arith, codes, decimal}
use Rattle.std.specs.Prelude.{nat_le, nat_lt, ◌==◌, ◌&&◌}
use Rattle.std.proofs.lemmas.Bool.{eqb-true}
use Rattle.std.proofs.lemmas.Bool.Decides.{nat_tests}
use Rattle.std.proofs.lemmas.List.{nil_from_length, append-nil, length-append}
use Rattle.tcs_terms.specs.declared.limits.TheConstants.{MAX_SHARDS, MAX_NODES, MAX_MEMBERS}
use Rattle.tcs_terms.specs.declared.setups.Rule.{Rule}
use Rattle.text_words.specs.declared.words.Reason.TheVariants as reasons
use Rattle.tcs_terms.specs.ConfigFaults.{config_fault}
use Rattle.tcs_terms.specs.Places.{Membership, IsMembership}
use Rattle.tcs_terms.specs.SetupFaults.{setup_fault}
use Rattle.tcs_terms.specs.Setups.{Deployment, IsDeployment}
use Rattle.text_words.specs.Words.{words_of, begins, after}
use Rattle.tcs_terms.proofs.BoolLaws.{right_of}
use Rattle.tcs_terms.proofs.PlaceLaws.{is_membership_without_fault}
use Rattle.tcs_terms.proofs.SetupLaws.{is_deployment_without_fault}
use Rattle.schedule_text.specs.declared.places.Place.{Place}
use Rattle.schedule_text.specs.declared.places.Place.TheVariants as places
use Rattle.tcs_terms.specs.Rules.{rule_text, rule_in}
use Rattle.schedule_text.specs.Text.{version_line, certifier_line, shards_line, node_line, node_lines, config_line, first_lines, setup_lines}
use Rattle.schedule_text.specs.Words.{fixed_at, end_at, number_at, between_at, node_of_at, nodes_at}
use Rattle.schedule_text.specs.Header.{Head, rule_or, rule_at, version_at, certifier_at, shards_at, next_at, node_at, shard_in_order_at, members_at, first_config_at, config_at, setup_or, begun_at, has_place_for, events_at, part_at, head_at}
use Rattle.tcs_terms.proofs.RuleReadings.{rule_named}
use Rattle.schedule_text.proofs.EventSpellings.{small_nodes}
use Rattle.schedule_text.proofs.LineWords.{words_of_version, words_of_certifier, words_of_shards, words_of_node, words_of_config}
use Rattle.schedule_text.proofs.NodeReadings.{nodes_take}
use Rattle.schedule_text.proofs.NumberReadings.{begun, fixed_takes, end_takes, number_read, between_takes, node_of_takes}
use Rattle.schedule_text.proofs.PrintLemmas.{node_lines_end}
use Rattle.schedule_text.proofs.Spaces.{same_words}
use Rattle.text_words.proofs.Steps.{bind_ok, met, ok_is}

-- ---- where a reader stands in the header

-- the lines of the header so far
abbrev pub head_lines : Place → Deployment → List (List ℕ)
head_lines places.Version d = []
head_lines places.Certifier d = version_line d.version ∷ []
head_lines places.Shards d = version_line d.version ∷ certifier_line d.rule ∷ []
head_lines places.Parts d = first_lines d ++ (node_lines 1 d.nodes ++ map config_line d.configs)
head_lines places.Events d = setup_lines d
head_lines places.Ended d = setup_lines d

-- what is known of the parts so far
abbrev pub HeadStands : Place → Deployment → Type 0
HeadStands places.Version d = (d.nodes ≡ []) × (d.configs ≡ [])
HeadStands places.Certifier d = (d.nodes ≡ []) × (d.configs ≡ [])
HeadStands places.Shards d = (d.nodes ≡ []) × (d.configs ≡ [])
HeadStands places.Parts d = All IsMembership d.configs × (length d.nodes ≤ MAX_NODES) × (d.shards ≤ MAX_SHARDS) × (length d.configs ≤ d.shards)
HeadStands places.Events d = IsDeployment d
HeadStands places.Ended d = IsDeployment d

-- before the line `events`
abbrev pub in_header : Place → Bool
in_header places.Version = true
in_header places.Certifier = true
in_header places.Shards = true
in_header places.Parts = true
in_header places.Events = false
in_header places.Ended = false

-- a line that is not the last, or the last one
abbrev pub HeadItem : Option Deployment → Place → Place → (before after : Deployment) → Type 0
HeadItem None from to before after = in_header to ≡ true
HeadItem (Some d) from to before after = (from ≡ places.Parts) × (to ≡ places.Events) × (d ≡ after) × (before ≡ after)

pub record HeadStep (place : Place) (d : Deployment) (line : List ℕ) (x : Option Deployment × Head) : Type 0 where
  pub lines : head_lines x.1.place x.1.setup ≡ head_lines place d ++ line ∷ []
  pub stands : HeadStands x.1.place x.1.setup
  pub item : HeadItem x.0 place x.1.place d x.1.setup

-- ---- the lines before the nodes

version_takes : (d : Deployment) (line : List ℕ) (x : Option Deployment × Head) → HeadStands places.Version d → version_at d (words_of line) ≡ Ok x → HeadStep places.Version d line x
unfolding version_at
version_takes d line x stands h =
    let a = bind_ok (fixed_at (codes "tcs") (words_of line)) _ x h in
    let b = bind_ok (between_at 1 2 a.0.1) _ x a.2 in
    let e = bind_ok (end_at b.0.1) _ x b.2 in
    let t = between_takes 1 2 a.0.1 b.0 b.1 in
    let words : words_of line ≡ codes "tcs" ∷ decimal b.0.0 ∷ [] =
    fixed_takes (codes "tcs") (words_of line) a.0 a.1 ∙ ap (λ (ws : List (List ℕ)). codes "tcs" ∷ ws) (t.word ∙ ap (λ (ws : List (List ℕ)). decimal b.0.0 ∷ ws) (end_takes b.0.1 e.0 e.1)) in
    let same : line ≡ version_line b.0.0 = same_words line (version_line b.0.0) (words ∙ sym (words_of_version b.0.0 t.small)) in
    subst (HeadStep places.Version d line) (ok_is (None, record { place = places.Certifier; setup = record d { version = b.0.0 } }) x e.2)
    (record { lines = ap (λ (l : List ℕ). l ∷ []) (sym same); stands = stands; item = refl })

rule_takes : (words : List (List ℕ)) (x : Rule × List (List ℕ)) → rule_at words ≡ Ok x → words ≡ rule_text x.0 ∷ x.1
unfolding rule_at
rule_takes [] x h = absurd cc
rule_takes (w ∷ ws) x h = go (rule_in w) refl h where
  go : (o : Option Rule) → rule_in w ≡ o → rule_or o ws ≡ Ok x → w ∷ ws ≡ rule_text x.0 ∷ x.1
  go (Some r) e k =
      subst (λ (y : Rule × List (List ℕ)). w ∷ ws ≡ rule_text y.0 ∷ y.1) (ok_is (r, ws) x k) (ap (λ (v : List ℕ). v ∷ ws) (rule_named w r e))
  go None e k = absurd cc

certifier_takes : (d : Deployment) (line : List ℕ) (x : Option Deployment × Head) → HeadStands places.Certifier d → certifier_at d (words_of line) ≡ Ok x → HeadStep places.Certifier d line x
unfolding certifier_at
certifier_takes d line x stands h =
    let a = bind_ok (fixed_at (codes "certifier") (words_of line)) _ x h in
    let b = bind_ok (rule_at a.0.1) _ x a.2 in
    let e = bind_ok (end_at b.0.1) _ x b.2 in
    let words : words_of line ≡ codes "certifier" ∷ rule_text b.0.0 ∷ [] =
    fixed_takes (codes "certifier") (words_of line) a.0 a.1
    ∙ ap (λ (ws : List (List ℕ)). codes "certifier" ∷ ws) (rule_takes a.0.1 b.0 b.1 ∙ ap (λ (ws : List (List ℕ)). rule_text b.0.0 ∷ ws) (end_takes b.0.1 e.0 e.1)) in
    let same : line ≡ certifier_line b.0.0 = same_words line (certifier_line b.0.0) (words ∙ sym (words_of_certifier b.0.0)) in
    subst (HeadStep places.Certifier d line) (ok_is (None, record { place = places.Shards; setup = record d { rule = b.0.0 } }) x e.2)
    (record { lines = ap (λ (l : List ℕ). version_line d.version ∷ l ∷ []) (sym same); stands = stands; item = refl })

no_parts_yet : (d : Deployment) → (d.nodes ≡ []) × (d.configs ≡ []) → node_lines 1 d.nodes ++ map config_line d.configs ≡ []
no_parts_yet d none = rw (none.0, none.1) refl

shards_takes : (d : Deployment) (line : List ℕ) (x : Option Deployment × Head) → HeadStands places.Shards d → shards_at d (words_of line) ≡ Ok x → HeadStep places.Shards d line x
unfolding shards_at
shards_takes d line x stands h =
    let a = bind_ok (fixed_at (codes "shards") (words_of line)) _ x h in
    let b = bind_ok (between_at 1 MAX_SHARDS a.0.1) _ x a.2 in
    let e = bind_ok (end_at b.0.1) _ x b.2 in
    let t = between_takes 1 MAX_SHARDS a.0.1 b.0 b.1 in
    let words : words_of line ≡ codes "shards" ∷ decimal b.0.0 ∷ [] =
    fixed_takes (codes "shards") (words_of line) a.0 a.1 ∙ ap (λ (ws : List (List ℕ)). codes "shards" ∷ ws) (t.word ∙ ap (λ (ws : List (List ℕ)). decimal b.0.0 ∷ ws) (end_takes b.0.1 e.0 e.1)) in
    let same : line ≡ shards_line b.0.0 = same_words line (shards_line b.0.0) (words ∙ sym (words_of_shards b.0.0 t.small)) in
    let front = version_line d.version ∷ certifier_line d.rule ∷ [] in
    let within = t.passes in
    let few : b.0.0 ≤ MAX_SHARDS = grind (arith, nat_tests) in
    subst (HeadStep places.Shards d line) (ok_is (None, record { place = places.Parts; setup = record d { shards = b.0.0 } }) x e.2) (record {
      lines = ap (λ (ls : List (List ℕ)). version_line d.version ∷ certifier_line d.rule ∷ shards_line b.0.0 ∷ ls) (no_parts_yet d stands)
          ∙ ap (λ (l : List ℕ). version_line d.version ∷ certifier_line d.rule ∷ l ∷ []) (sym same);
      stands = (rw stands.1 (λ k c lt. absurd (omega arith)), rw stands.0 (omega arith), few, omega (arith, ap length stands.1));
      item = refl;
    })

-- ---- nodes

next_takes : (count : ℕ) (words : List (List ℕ)) (x : ℕ × List (List ℕ)) → next_at count words ≡ Ok x → (words ≡ decimal x.0 ∷ x.1) × (x.0 < 2 ^ 64) × (x.0 ≡ count + 1) × (count < MAX_NODES)
unfolding next_at
next_takes count words x h =
    let a = bind_ok (number_at words) _ x h in
    let t = number_read words a.0 a.1 in
    go (nat_le MAX_NODES count) refl a.0 t a.2 where
      go : (b : Bool) → nat_le MAX_NODES count ≡ b → (n : ℕ × List (List ℕ)) → (words ≡ decimal n.0 ∷ n.1) × (n.0 < 2 ^ 64)
          → cond b (Err reasons.Many) (cond (n.0 == count + 1) (Ok n) (Err reasons.Order)) ≡ Ok x
          → (words ≡ decimal x.0 ∷ x.1) × (x.0 < 2 ^ 64) × (x.0 ≡ count + 1) × (count < MAX_NODES)
      go true e n t k = absurd cc
      go false e n t k =
          let m = met (n.0 == count + 1) reasons.Order n x k in
          let room : count < MAX_NODES = grind (arith, nat_tests) in
          subst (λ (y : ℕ × List (List ℕ)). (words ≡ decimal y.0 ∷ y.1) × (y.0 < 2 ^ 64) × (y.0 ≡ count + 1) × (count < MAX_NODES)) m.1 (t.0, t.1, eqb-true n.0 (count + 1) m.0, room)

-- one more node, where there is no configuration yet
node_added : (d : Deployment) (shard : ℕ) → d.configs ≡ []
    → first_lines d ++ (node_lines 1 (d.nodes ++ shard ∷ []) ++ map config_line d.configs) ≡ (first_lines d ++ (node_lines 1 d.nodes ++ map config_line d.configs)) ++ node_line (length d.nodes + 1) shard ∷ []
node_added d shard none =
    let more : node_lines 1 (d.nodes ++ shard ∷ []) ++ [] ≡ (node_lines 1 d.nodes ++ []) ++ node_line (length d.nodes + 1) shard ∷ [] =
    append-nil (node_lines 1 (d.nodes ++ shard ∷ [])) ∙ node_lines_end 1 d.nodes shard ∙ ap (λ n. node_lines 1 d.nodes ++ node_line n shard ∷ []) (omega arith)
    ∙ ap (λ (ls : List (List ℕ)). ls ++ node_line (length d.nodes + 1) shard ∷ []) (sym (append-nil (node_lines 1 d.nodes))) in
    rw none (ap (λ (ls : List (List ℕ)). first_lines d ++ ls) more ∙ sym (append_assoc (first_lines d) (node_lines 1 d.nodes ++ []) (node_line (length d.nodes + 1) shard ∷ [])))

node_takes : (d : Deployment) (line : List ℕ) (rest : List (List ℕ)) (x : Option Deployment × Head) → HeadStands places.Parts d → d.configs ≡ [] → words_of line ≡ codes "node" ∷ rest
    → node_at d rest ≡ Ok x → HeadStep places.Parts d line x
unfolding node_at
node_takes d line rest x stands none first h =
    let a = bind_ok (next_at (length d.nodes) rest) _ x h in
    let b = bind_ok (between_at 1 d.shards a.0.1) _ x a.2 in
    let e = bind_ok (end_at b.0.1) _ x b.2 in
    let n = next_takes (length d.nodes) rest a.0 a.1 in
    let t = between_takes 1 d.shards a.0.1 b.0 b.1 in
    let words : words_of line ≡ codes "node" ∷ decimal a.0.0 ∷ decimal b.0.0 ∷ [] =
    first ∙ ap (λ (ws : List (List ℕ)). codes "node" ∷ ws) (n.0 ∙ ap (λ (ws : List (List ℕ)). decimal a.0.0 ∷ ws) (t.word ∙ ap (λ (ws : List (List ℕ)). decimal b.0.0 ∷ ws) (end_takes b.0.1 e.0 e.1))) in
    let same : line ≡ node_line a.0.0 b.0.0 = same_words line (node_line a.0.0 b.0.0) (words ∙ sym (words_of_node a.0.0 b.0.0 n.1 t.small)) in
    let is_line : line ≡ node_line (length d.nodes + 1) b.0.0 = same ∙ ap (λ k. node_line k b.0.0) n.2 in
    let room = n.3 in
    subst (HeadStep places.Parts d line) (ok_is (None, record { place = places.Parts; setup = record d { nodes = d.nodes ++ b.0.0 ∷ [] } }) x e.2) (record {
      lines = node_added d b.0.0 none ∙ ap (λ (l : List ℕ). head_lines places.Parts d ++ l ∷ []) (sym is_line);
      stands = (stands.0, omega (arith, length-append d.nodes (b.0.0 ∷ []), room), stands.2, stands.3);
      item = refl;
    })

-- ---- configurations

none_is : {A : Type 0} (o : Option A) → is_none o ≡ true → o ≡ None
none_is None e = refl
none_is (Some x) e = absurd cc

record ConfigTaken (words : List (List ℕ)) (c : Membership) : Type 0 where
  spelled : words ≡ decimal c.shard ∷ decimal c.leader ∷ map decimal c.members
  is : IsMembership c
  shard : c.shard < 2 ^ 64
  leader : c.leader < 2 ^ 64
  members : All (λ n. n < 2 ^ 64) c.members

shard_takes : (d : Deployment) (words : List (List ℕ)) (x : ℕ × List (List ℕ)) → shard_in_order_at d words ≡ Ok x → (words ≡ decimal x.0 ∷ x.1) × (x.0 < 2 ^ 64)
unfolding shard_in_order_at
shard_takes d words x h =
    let a = bind_ok (between_at 1 d.shards words) _ x h in
    let t = between_takes 1 d.shards words a.0 a.1 in
    let m = met (a.0.0 == length d.configs + 1) reasons.Order a.0 x a.2 in
    subst (λ (y : ℕ × List (List ℕ)). (words ≡ decimal y.0 ∷ y.1) × (y.0 < 2 ^ 64)) m.1 (t.word, t.small)

members_take : (d : Deployment) (shard : ℕ) (words : List (List ℕ)) (ns : List ℕ) → members_at d shard words ≡ Ok ns → nodes_at d.nodes shard MAX_MEMBERS 0 words ≡ Ok ns
unfolding members_at
members_take d shard words ns h = go (length words == 0) h where
  go : (b : Bool) → cond b (Err reasons.Word) (nodes_at d.nodes shard MAX_MEMBERS 0 words) ≡ Ok ns → nodes_at d.nodes shard MAX_MEMBERS 0 words ≡ Ok ns
  go true e = absurd cc
  go false e = e

first_config_takes : (d : Deployment) (words : List (List ℕ)) (c : Membership) → length d.nodes ≤ MAX_NODES → first_config_at d words ≡ Ok c → ConfigTaken words c
unfolding first_config_at
first_config_takes d words c few h =
    let a = bind_ok (shard_in_order_at d words) _ c h in
    let b = bind_ok (node_of_at d.nodes a.0.0 a.0.1) _ c a.2 in
    let e = bind_ok (members_at d a.0.0 b.0.1) _ c b.2 in
    let s = shard_takes d words a.0 a.1 in
    let l = node_of_takes d.nodes a.0.0 a.0.1 b.0 b.1 in
    let n = nodes_take d.nodes a.0.0 MAX_MEMBERS 0 b.0.1 e.0 (members_take d a.0.0 b.0.1 e.0 e.1) in
    let made : Membership = record { shard = a.0.0; epoch = 1; members = e.0; leader = b.0.0; by = 0 } in
    let m = met (is_none (config_fault made)) reasons.Range made c e.2 in
    subst (ConfigTaken words) m.1 (record {
      spelled = s.0 ∙ ap (λ (ws : List (List ℕ)). decimal a.0.0 ∷ ws) (l.word ∙ ap (λ (ws : List (List ℕ)). decimal b.0.0 ∷ ws) n.spelled);
      is = is_membership_without_fault made (none_is (config_fault made) m.0);
      shard = s.1;
      leader = l.small;
      members = small_nodes d.nodes a.0.0 e.0 (omega arith) n.each;
    })

all_end : {A : Type 0} (P : A → Type 0) (xs : List A) (x : A) → All P xs → P x → All P (xs ++ x ∷ [])
all_end P [] x all p zero d lt = p
all_end P [] x all p (suc k) d lt = absurd (omega arith)
all_end P (y ∷ ys) x all p zero d lt = all 0 d (omega arith)
all_end P (y ∷ ys) x all p (suc k) d lt = all_end P ys x (λ j e le. all (suc j) e (omega arith)) p k d (omega arith)

pub map_end : {A B : Type 0} (f : A → B) (xs : List A) (x : A) → map f (xs ++ x ∷ []) ≡ map f xs ++ f x ∷ []
map_end f [] x = refl
map_end f (y ∷ ys) x = ap (λ zs. f y ∷ zs) (map_end f ys x)

-- one more configuration
config_added : (d : Deployment) (c : Membership)
    → first_lines d ++ (node_lines 1 d.nodes ++ map config_line (d.configs ++ c ∷ [])) ≡ (first_lines d ++ (node_lines 1 d.nodes ++ map config_line d.configs)) ++ config_line c ∷ []
config_added d c =
    ap (λ (ls : List (List ℕ)). first_lines d ++ (node_lines 1 d.nodes ++ ls)) (map_end config_line d.configs c)
    ∙ ap (λ (ls : List (List ℕ)). first_lines d ++ ls) (sym (append_assoc (node_lines 1 d.nodes) (map config_line d.configs) (config_line c ∷ [])))
    ∙ sym (append_assoc (first_lines d) (node_lines 1 d.nodes ++ map config_line d.configs) (config_line c ∷ []))

config_takes : (d : Deployment) (line : List ℕ) (rest : List (List ℕ)) (x : Option Deployment × Head) → HeadStands places.Parts d → (not (length d.nodes == 0) && nat_lt (length d.configs) d.shards) ≡ true
    → words_of line ≡ codes "config" ∷ rest → config_at d rest ≡ Ok x → HeadStep places.Parts d line x
unfolding config_at
config_takes d line rest x stands may first h =
    let below = right_of (not (length d.nodes == 0)) (nat_lt (length d.configs) d.shards) may in
    let room : length d.configs < d.shards = grind (arith, nat_tests) in
    let a = bind_ok (first_config_at d rest) _ x h in
    let t = first_config_takes d rest a.0 stands.1 a.1 in
    let words : words_of line ≡ codes "config" ∷ decimal a.0.shard ∷ decimal a.0.leader ∷ map decimal a.0.members = first ∙ ap (λ (ws : List (List ℕ)). codes "config" ∷ ws) t.spelled in
    let same : line ≡ config_line a.0 = same_words line (config_line a.0) (words ∙ sym (words_of_config a.0 t.shard t.leader t.members)) in
    subst (HeadStep places.Parts d line) (ok_is (None, record { place = places.Parts; setup = record d { configs = d.configs ++ a.0 ∷ [] } }) x a.2) (record {
      lines = config_added d a.0 ∙ ap (λ (l : List ℕ). head_lines places.Parts d ++ l ∷ []) (sym same);
      stands = (all_end IsMembership d.configs a.0 stands.0 t.is, stands.1, stands.2, omega (arith, length-append d.configs (a.0 ∷ []), room));
      item = refl;
    })

-- ---- the line `events`

begun_takes : (d : Deployment) (words : List (List ℕ)) (x : Deployment × List (List ℕ)) → begun_at d words ≡ Ok x → (words ≡ codes "events" ∷ x.1) × (d ≡ x.0) × (setup_fault d ≡ None)
unfolding begun_at
begun_takes d words x h =
    let a = bind_ok (fixed_at (codes "events") words) _ x h in
    let b = bind_ok (setup_or d) _ x a.2 in
    let m = met (is_none (setup_fault d)) reasons.Word d b.0 b.1 in
    subst (λ (y : Deployment × List (List ℕ)). (words ≡ codes "events" ∷ y.1) × (d ≡ y.0) × (setup_fault d ≡ None)) (ok_is (b.0, a.0.1) x b.2)
    (fixed_takes (codes "events") words a.0 a.1, m.1, none_is (setup_fault d) m.0)

pub setup_is_whole : (d : Deployment) → setup_lines d ≡ head_lines places.Parts d ++ codes "events" ∷ []
unfolding setup_lines
setup_is_whole d =
    ap (λ (ls : List (List ℕ)). first_lines d ++ ls) (sym (append_assoc (node_lines 1 d.nodes) (map config_line d.configs) (codes "events" ∷ [])))
    ∙ sym (append_assoc (first_lines d) (node_lines 1 d.nodes ++ map config_line d.configs) (codes "events" ∷ []))

events_takes : (only : Option ℕ) (d : Deployment) (line : List ℕ) (x : Option Deployment × Head) → HeadStands places.Parts d → events_at only d (words_of line) ≡ Ok x → HeadStep places.Parts d line x
unfolding events_at
events_takes only d line x stands h =
    let a = bind_ok (begun_at d (words_of line)) _ x h in
    let e = bind_ok (end_at a.0.1) _ x a.2 in
    let t = begun_takes d (words_of line) a.0 a.1 in
    let m = met (has_place_for only d) reasons.Range (Some a.0.0, record { place = places.Events; setup = d }) x e.2 in
    let words : words_of line ≡ codes "events" ∷ [] = t.0 ∙ ap (λ (ws : List (List ℕ)). codes "events" ∷ ws) (end_takes a.0.1 e.0 e.1) in
    let same : line ≡ codes "events" = same_words line (codes "events") words in
    subst (HeadStep places.Parts d line) m.1 (record {
      lines = setup_is_whole d ∙ ap (λ (l : List ℕ). head_lines places.Parts d ++ l ∷ []) (sym same);
      stands = is_deployment_without_fault d stands.0 t.2;
      item = (refl, refl, sym t.1, refl);
    })

-- ---- any line

part_takes : (only : Option ℕ) (d : Deployment) (line : List ℕ) (x : Option Deployment × Head) → HeadStands places.Parts d → part_at only d (words_of line) ≡ Ok x → HeadStep places.Parts d line x
unfolding part_at
part_takes only d line x stands h = node_or (length d.configs == 0) (begins (codes "node") (words_of line)) refl refl h where
  config_or_events : (a b : Bool) → (not (length d.nodes == 0) && nat_lt (length d.configs) d.shards) ≡ a → begins (codes "config") (words_of line) ≡ b → cond (a && b) (config_at d (after (words_of line))) (events_at only d (words_of line)) ≡ Ok x → HeadStep places.Parts d line x
  config_or_events true true may e k = config_takes d line (after (words_of line)) x stands may (begun (codes "config") (words_of line) e) k
  config_or_events true false may e k = events_takes only d line x stands k
  config_or_events false b may e k = events_takes only d line x stands k

  node_or : (a b : Bool) → (length d.configs == 0) ≡ a → begins (codes "node") (words_of line) ≡ b
      → cond (a && b) (node_at d (after (words_of line)))
      (cond ((not (length d.nodes == 0) && nat_lt (length d.configs) d.shards) && begins (codes "config") (words_of line)) (config_at d (after (words_of line))) (events_at only d (words_of line)))
      ≡ Ok x
      → HeadStep places.Parts d line x
  node_or true true e f k = node_takes d line (after (words_of line)) x stands (nil_from_length d.configs (eqb-true _ _ e)) (begun (codes "node") (words_of line) f) k
  node_or true false e f k = config_or_events (not (length d.nodes == 0) && nat_lt (length d.configs) d.shards) (begins (codes "config") (words_of line)) refl refl k
  node_or false b e f k = config_or_events (not (length d.nodes == 0) && nat_lt (length d.configs) d.shards) (begins (codes "config") (words_of line)) refl refl k

pub head_takes : (only : Option ℕ) (place : Place) (d : Deployment) (line : List ℕ) (x : Option Deployment × Head) → HeadStands place d → head_at only place d (words_of line) ≡ Ok x
    → HeadStep place d line x
head_takes only places.Version d line x stands h = version_takes d line x stands h
head_takes only places.Certifier d line x stands h = certifier_takes d line x stands h
head_takes only places.Shards d line x stands h = shards_takes d line x stands h
head_takes only places.Parts d line x stands h = part_takes only d line x stands h
head_takes only places.Events d line x stands h = absurd cc
head_takes only places.Ended d line x stands h = absurd cc
