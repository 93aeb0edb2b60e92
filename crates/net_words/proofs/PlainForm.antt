-- What `clap` makes of words in plain form, whatever the parsers are.
use Rattle.std.proofs.Common.{◌≡◌, ◌∙◌, ◌++◌, ap, ap₂, sym, subst, refl, Bool, true, false, List, [], ◌∷◌, Option, Some, None, is_some, codes}
use Rattle.std.specs.Prelude.{option_map, if◌then◌else◌}
use Rattle.clap.specs.Faults.{check_fault, defaults_fault, entered_fault, settle_fault, step_fault, turn_fault}
use Rattle.clap.specs.Kinds.{Kinds, or_else, values_kinds}
use Rattle.clap.specs.Simple.{App, Shape, built, entered}
use Rattle.clap.specs.Values.{read_as, reading_of, refused_kind}
use Rattle.clap.specs.ValueTests.{accepts}
use Rattle.clap.specs.Walk.{Held, Row, Step, Walk, after_step, finished, idle, nothing_held, option, plain_word, settled, settled_rows, walk_from, walked}
use Rattle.clap.specs.Words.{Text, fault_of, first_of, matches_of, one_of}
use Rattle.clap.specs.declared.builder.value_parser.ValueParser.{ValueParser}
use Rattle.clap.proofs.OnLiterals.{clap_on_literals}
use Rattle.net_words.specs.Definition.{with_parsers}
use Rattle.net_words.proofs.SolidText.{Solid, text_of}
use Rattle.net_words.proofs.SolidWords.{Reaches, one_more, solid_is_plain, solid_is_quiet, stays}

-- ---- words

abbrev pub written : Text → Option Solid → List Text
written name None = []
written name (Some s) = name ∷ text_of s ∷ []

abbrev pub passes : ValueParser → Option Solid → Bool
passes q None = true
passes q (Some s) = accepts false q (text_of s)

-- what is read of an option's value
abbrev pub read_with : ValueParser → Option Solid → Option Text
read_with q = option_map (λ s. read_as (reading_of q) (text_of s))

abbrev pub solid_words : Solid → Option Solid → Option Solid → Option Solid → List Text
solid_words mode id port miss =
    text_of mode ∷ (written (codes "--id") id ++ (written (codes "--port") port ++ written (codes "--miss") miss))

-- an option, by its name behind two hyphens and by its id
data Key : Type 0 where
  Id : Key
  Port : Key
  Miss : Key

abbrev word_of : Key → Text
word_of Id = codes "--id"
word_of Port = codes "--port"
word_of Miss = codes "--miss"

abbrev id_of : Key → Text
id_of Id = codes "id"
id_of Port = codes "port"
id_of Miss = codes "miss"

-- a value that its parser takes is no fault
no_kind : (q : ValueParser) (v : Text) → accepts false q v ≡ true → values_kinds false q (v ∷ []) ≡ []
no_kind q v ok = ap (λ (b : Bool). or_else (if b then [] else refused_kind q ∷ []) []) ok

module _ (q0 q1 q2 q3 : ValueParser) where
  abbrev top : Shape
  top = (built (with_parsers q0 q1 q2 q3)).top

  -- ---- places of the walk between two arguments: the rows so far, and the last argument with its value, which is no row yet
  record Place : Type 0 where
    rows : List Row
    id : Text
    value : Text

  abbrev held_at : Place → Held
  held_at p = record { rows = p.rows; pending = Some (p.id, p.value ∷ []); skip = 0 }

  abbrev walk_at : Place → Walk
  walk_at p = record { held = held_at p; waiting = idle; position = 2; is_trailing = false; stopped = None }

  -- behind the name of an option
  abbrev walk_in : Key → Place → Walk
  walk_in k p = record {
    held = record { rows = settled_rows top.rules (Some (p.id, p.value ∷ [])) p.rows; pending = Some (id_of k, []); skip = 0 };
    waiting = option (id_of k);
    position = 2;
    is_trailing = false;
    stopped = None;
  }

  abbrev after : Key → Option Solid → Place → Place
  after k None p = p
  after k (Some s) p = record {
    rows = settled_rows top.rules (Some (p.id, p.value ∷ [])) p.rows;
    id = id_of k;
    value = text_of s;
  }

  abbrev IsQuiet : Place → Type 0
  IsQuiet p = settle_fault top.rules false (held_at p) ≡ []

  name_step : (k : Key) (p : Place) → walked top.rules [] (walk_at p) (word_of k) ≡ walk_in k p
  unfolding clap_on_literals
  name_step Id p = refl
  name_step Port p = refl
  name_step Miss p = refl

  name_quiet : (k : Key) (p : Place) → IsQuiet p → turn_fault top [] (walk_at p) (word_of k) ≡ []
  unfolding clap_on_literals
  name_quiet Id p quiet = ap (λ (ks : Kinds). or_else ks []) quiet
  name_quiet Port p quiet = ap (λ (ks : Kinds). or_else ks []) quiet
  name_quiet Miss p quiet = ap (λ (ks : Kinds). or_else ks []) quiet

  value_met : (k : Key) (p : Place) (s : Solid) → walked top.rules [] (walk_in k p) (text_of s)
      ≡ (let met = plain_word top.rules (option (id_of k)) (text_of s) (walk_in k p).held in after_step top.rules (text_of s) (walk_in k p) met.0 met.1)
  unfolding walked
  value_met k p s = ap (λ (met : Held × Step). after_step top.rules (text_of s) (walk_in k p) met.0 met.1)
      (solid_is_plain top.rules (option (id_of k)) 2 s (walk_in k p).held)

  value_step : (k : Key) (p : Place) (s : Solid)
      → walked top.rules [] (walk_in k p) (text_of s) ≡ walk_at (after k (Some s) p)
  value_step Id p s = value_met Id p s
  value_step Port p s = value_met Port p s
  value_step Miss p s = value_met Miss p s

  value_quiet : (k : Key) (p : Place) (s : Solid) → turn_fault top [] (walk_in k p) (text_of s) ≡ []
  value_quiet k p s = ap₂ or_else (solid_is_quiet top (option (id_of k)) s (walk_in k p).held)
      (ap (λ (met : Held × Step). step_fault top 2 met.0 met.1) (solid_is_plain top.rules (option (id_of k)) 2 s (walk_in k p).held))

  option_over : (k : Key) (o : Option Solid) (p : Place) (rest : List Text) (to : Walk) → IsQuiet p
      → Reaches top (walk_at (after k o p)) rest to
      → Reaches top (walk_at p) (written (word_of k) o ++ rest) to
  option_over k None p rest to quiet behind = behind
  option_over k (Some s) p rest to quiet behind =
      one_more top (walk_at p) (walk_in k p) to (word_of k) (text_of s ∷ rest) (name_step k p) (name_quiet k p quiet)
      (one_more top (walk_in k p) (walk_at (after k (Some s) p)) to (text_of s) rest (value_step k p s) (value_quiet k p s) behind)

  -- ---- the walk over all of them

  module _ (m : Solid) where
    abbrev start : Place
    start = record { rows = []; id = codes "mode"; value = text_of m }

    abbrev last : Option Solid → Option Solid → Option Solid → Place
    last a b c = after Miss c (after Port b (after Id a start))

    mode_step : walked top.rules [] (walk_from nothing_held) (text_of m) ≡ walk_at start
    unfolding walked
    mode_step = ap (λ (met : Held × Step). after_step top.rules (text_of m) (walk_from nothing_held) met.0 met.1)
        (solid_is_plain top.rules idle 1 m nothing_held)

    mode_quiet : turn_fault top [] (walk_from nothing_held) (text_of m) ≡ []
    mode_quiet = ap₂ or_else (solid_is_quiet top idle m nothing_held)
        (ap (λ (met : Held × Step). step_fault top 1 met.0 met.1) (solid_is_plain top.rules idle 1 m nothing_held))

    miss_over : (c : Option Solid) (p : Place) → IsQuiet p
        → Reaches top (walk_at p) (written (codes "--miss") c) (walk_at (after Miss c p))
    miss_over None p quiet = stays top (walk_at p)
    miss_over (Some s) p quiet =
        let to = walk_at (after Miss (Some s) p) in
        option_over Miss (Some s) p [] to quiet (stays top to)

    module _ (ok0 : accepts false q0 (text_of m) ≡ true) where
      all_quiet : (a b c : Option Solid) → passes q1 a ≡ true → passes q2 b ≡ true → passes q3 c ≡ true
          → IsQuiet (last a b c)
      all_quiet None None None ok1 ok2 ok3 = no_kind q0 (text_of m) ok0
      all_quiet (Some a) None None ok1 ok2 ok3 = no_kind q1 (text_of a) ok1
      all_quiet None (Some b) None ok1 ok2 ok3 = no_kind q2 (text_of b) ok2
      all_quiet (Some a) (Some b) None ok1 ok2 ok3 = no_kind q2 (text_of b) ok2
      all_quiet None None (Some c) ok1 ok2 ok3 = no_kind q3 (text_of c) ok3
      all_quiet (Some a) None (Some c) ok1 ok2 ok3 = no_kind q3 (text_of c) ok3
      all_quiet None (Some b) (Some c) ok1 ok2 ok3 = no_kind q3 (text_of c) ok3
      all_quiet (Some a) (Some b) (Some c) ok1 ok2 ok3 = no_kind q3 (text_of c) ok3

      reached : (a b c : Option Solid) → passes q1 a ≡ true → passes q2 b ≡ true → passes q3 c ≡ true
          → Reaches top (walk_from nothing_held) (solid_words m a b c) (walk_at (last a b c))
      reached a b c ok1 ok2 ok3 =
          let to = walk_at (last a b c) in
          let from_miss = miss_over c (last a b None) (all_quiet a b None ok1 ok2 refl) in
          let from_port = option_over Port b (last a None None) (written (codes "--miss") c) to (all_quiet a None None ok1 refl refl) from_miss in
          let from_id = option_over Id a start (written (codes "--port") b ++ written (codes "--miss") c) to (all_quiet None None None refl refl refl) from_port in
          one_more top (walk_from nothing_held) (walk_at start) to (text_of m) _ mode_step mode_quiet from_id

      -- ---- behind the walk

      abbrev app : App
      app = with_parsers q0 q1 q2 q3

      abbrev faults_behind : Walk → Kinds
      faults_behind w = or_else (defaults_fault (settled top.rules w.held).rows top.rules)
          (check_fault top (finished top.rules w.held) (is_some (entered (built app) w.stopped)))

      abbrev faults : Kinds → Walk → Kinds
      faults in_words w = or_else in_words (or_else (entered_fault (built app) w.stopped) (or_else (settle_fault top.rules false w.held) (faults_behind w)))

      none_behind : (a b c : Option Solid) → faults_behind (walk_at (last a b c)) ≡ []
      unfolding clap_on_literals
      none_behind None None None = refl
      none_behind (Some a) None None = refl
      none_behind None (Some b) None = refl
      none_behind (Some a) (Some b) None = refl
      none_behind None None (Some c) = refl
      none_behind (Some a) None (Some c) = refl
      none_behind None (Some b) (Some c) = refl
      none_behind (Some a) (Some b) (Some c) = refl

      pub no_fault : (a b c : Option Solid) → passes q1 a ≡ true → passes q2 b ≡ true → passes q3 c ≡ true
          → fault_of app (solid_words m a b c) ≡ []
      no_fault a b c ok1 ok2 ok3 =
          let r = reached a b c ok1 ok2 ok3 in
          ap₂ faults r.quiet r.place
          ∙ (ap (λ (ks : Kinds). or_else ks (faults_behind (walk_at (last a b c)))) (all_quiet a b c ok1 ok2 ok3) ∙ none_behind a b c)

      -- ---- the matches

      pub record RowsHold (rows : List Row) (a b c : Option Solid) : Type 0 where
        pub mode : first_of (codes "mode") rows ≡ Some (text_of m)
        pub id : one_of (codes "id") rows ≡ read_with q1 a
        pub port : one_of (codes "port") rows ≡ read_with q2 b
        pub miss : one_of (codes "miss") rows ≡ read_with q3 c

      at_the_end : (a b c : Option Solid) → RowsHold (finished top.rules (held_at (last a b c))) a b c
      at_the_end None None None = record { mode = refl; id = refl; port = refl; miss = refl }
      at_the_end (Some a) None None = record { mode = refl; id = refl; port = refl; miss = refl }
      at_the_end None (Some b) None = record { mode = refl; id = refl; port = refl; miss = refl }
      at_the_end (Some a) (Some b) None = record { mode = refl; id = refl; port = refl; miss = refl }
      at_the_end None None (Some c) = record { mode = refl; id = refl; port = refl; miss = refl }
      at_the_end (Some a) None (Some c) = record { mode = refl; id = refl; port = refl; miss = refl }
      at_the_end None (Some b) (Some c) = record { mode = refl; id = refl; port = refl; miss = refl }
      at_the_end (Some a) (Some b) (Some c) = record { mode = refl; id = refl; port = refl; miss = refl }

      pub rows_hold : (a b c : Option Solid) → passes q1 a ≡ true → passes q2 b ≡ true → passes q3 c ≡ true
          → RowsHold (matches_of app (solid_words m a b c)) a b c
      rows_hold a b c ok1 ok2 ok3 =
          let place = (reached a b c ok1 ok2 ok3).place in
          let are : matches_of app (solid_words m a b c) ≡ finished top.rules (held_at (last a b c)) =
          ap (λ (w : Walk). finished top.rules w.held) place in
          subst (λ (rows : List Row). RowsHold rows a b c) (sym are) (at_the_end a b c)
