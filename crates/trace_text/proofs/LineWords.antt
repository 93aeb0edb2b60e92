-- Lines: what is read is spelled so and may stand there, and what may stand there is read from its text.
use Rattle.std.proofs.Common.{◌≡◌, ℕ, ◌+◌, ◌^◌, ◌<◌, ◌≤◌, Bool, true, false, cond, ◌&&◌, List, ◌∷◌, ◌++◌, Some, refl, sym, ap, subst, ◌∙◌, append_assoc, arith}
use Rattle.std.specs.Prelude.{◌==◌, nat_le, codes, decimal}
use Rattle.std.proofs.lemmas.Bool.{eqb-true, eq-eqb}
use Rattle.std.proofs.lemmas.Bool.Decides.{nat_tests}
use Rattle.tcs_terms.specs.declared.limits.TheConstants.{MAX_NODES, MAX_SHARDS}
use Rattle.tcs_terms.specs.declared.ids.TxId.{TxId}
use Rattle.tcs_terms.specs.declared.inputs.Note.{Note}
use Rattle.tcs_terms.specs.declared.inputs.Result1.{Result1}
use Rattle.tcs_terms.specs.declared.setups.Rule.{Rule}
use Rattle.text_words.specs.PayloadWords.{number_in}
use Rattle.tcs_terms.proofs.BoolLaws.{both, left_of, right_of}
use Rattle.tcs_terms.specs.Rules.{rule_text, rule_in}
use Rattle.trace_text.specs.Texts.{result_text, note_text, order_text}
use Rattle.trace_text.specs.Lines.{Line, HeadLine, EventLine, NoteLine, MessageLine, OrderLine, EndLine, line_text, Standing, IsStanding, MayStand}
use Rattle.trace_text.specs.Words.{cut, is_word, number_within, next_number}
use Rattle.trace_text.specs.Readings.{Ends, result_in, note_in, frame_in, head_of, event_of, note_of, ends_of, message_of, order_in, order_of, end_of, line_as, line_of, line_in}
use Rattle.trace_text.specs.declared.stages.LineForm.{LineForm}
use Rattle.trace_text.specs.declared.stages.LineForm.TheVariants as forms
use Rattle.trace_text.specs.Stages.{allows, form_of}
use Rattle.trace_text.proofs.Steps.{bind_some, some_is, kept, taken}
use Rattle.trace_text.proofs.Cuts.{lacks, cut_takes, cut_again}
use Rattle.trace_text.proofs.PlainWords.{word_is, decimal_lacks, rule_lacks, within_takes, within_again, small_within, next_takes, next_again}
use Rattle.text_words.proofs.WordReadings.{number_in_takes, number_in_again}
use Rattle.tcs_terms.proofs.RuleReadings.{rule_named, word_names}
use Rattle.trace_text.proofs.ResultWords.{result_takes, result_again}
use Rattle.trace_text.proofs.NoteWords.{note_takes, note_again}
use Rattle.trace_text.proofs.FrameWords.{frame_text, frame_takes_text, frame_reads_again}
use Rattle.trace_text.proofs.OrderWords.{order_takes, order_again}

-- ---- the parts of the texts

head_parts : (version : ℕ) (rule : Rule) (shards : ℕ) → line_text (HeadLine version rule shards) ≡ codes "trace" ++ 32 ∷ (decimal version ++ 32 ∷ (rule_text rule ++ 32 ∷ decimal shards))
head_parts version rule shards = simp append_assoc

event_parts : (k : ℕ) (r : Result1) → line_text (EventLine k r) ≡ codes "e" ++ 32 ∷ (decimal k ++ 32 ∷ result_text r)
event_parts k r = simp append_assoc

message_parts : (number from to : ℕ) (frame : List ℕ)
    → line_text (MessageLine number from to frame) ≡ codes "m" ++ 32 ∷ (decimal number ++ 32 ∷ (decimal from ++ 32 ∷ (decimal to ++ 32 ∷ frame_text frame)))
message_parts number from to frame = simp append_assoc

end_parts : (events messages : ℕ) → line_text (EndLine events messages) ≡ codes "end" ++ 32 ∷ (decimal events ++ 32 ∷ decimal messages)
end_parts events messages = simp append_assoc

-- ---- what is read behind the first word

-- a line that was read behind its first word, where the stage allows it
record Read (s : Standing) (word text : List ℕ) (line : Line) : Type 0 where
  stands : MayStand s line
  spelled : word ++ 32 ∷ text ≡ line_text line

head_takes : (s : Standing) (text : List ℕ) (line : Line) → allows s.stage forms.Head ≡ true → head_of s text ≡ Some line → Read s (codes "trace") text line
unfolding head_of
head_takes s text line stage h =
    let words = bind_some (cut 32 text) _ line h in
    let others = bind_some (cut 32 words.0.1) _ line words.2 in
    let version = bind_some (number_within 1 2 words.0.0) _ line others.2 in
    let rule = bind_some (rule_in others.0.0) _ line version.2 in
    let shards = bind_some (number_within 1 MAX_SHARDS others.0.1) _ line rule.2 in
    let c = cut_takes 32 text words.0 words.1 in
    let o = cut_takes 32 words.0.1 others.0 others.1 in
    let v = within_takes 1 2 words.0.0 version.0 version.1 in
    let r = rule_named others.0.0 rule.0 rule.1 in
    let n = within_takes 1 MAX_SHARDS others.0.1 shards.0 shards.1 in
    subst (Read s (codes "trace") text) (some_is (HeadLine version.0 rule.0 shards.0) line shards.2) (record {
      stands = (stage, v.fits, n.fits);
      spelled = ap (λ (x : List ℕ). codes "trace" ++ 32 ∷ x) (c.whole ∙ ap (λ (x : List ℕ). x ++ 32 ∷ words.0.1) v.spelled ∙ ap (λ (x : List ℕ). decimal version.0 ++ 32 ∷ x)
          (o.whole ∙ ap (λ (x : List ℕ). x ++ 32 ∷ others.0.1) r ∙ ap (λ (x : List ℕ). rule_text rule.0 ++ 32 ∷ x) n.spelled)) ∙ sym (head_parts version.0 rule.0 shards.0);
    })

event_takes : (s : Standing) (text : List ℕ) (line : Line) → allows s.stage forms.Event ≡ true → event_of s text ≡ Some line → Read s (codes "e") text line
unfolding event_of
event_takes s text line stage h =
    let words = bind_some (cut 32 text) _ line h in
    let k = bind_some (next_number s.events words.0.0) _ line words.2 in
    let result = bind_some (result_in words.0.1) _ line k.2 in
    let c = cut_takes 32 text words.0 words.1 in
    let n = next_takes s.events words.0.0 k.0 k.1 in
    let r = result_takes words.0.1 result.0 result.1 in
    subst (Read s (codes "e") text) (some_is (EventLine k.0 result.0) line result.2) (record {
      stands = (stage, n.1, n.2, r.1);
      spelled = ap (λ (x : List ℕ). codes "e" ++ 32 ∷ x) (c.whole ∙ ap (λ (x : List ℕ). x ++ 32 ∷ words.0.1) n.0 ∙ ap (λ (x : List ℕ). decimal k.0 ++ 32 ∷ x) r.0) ∙ sym (event_parts k.0 result.0);
    })

record ReadEnds (count : ℕ) (text : List ℕ) (e : Ends) : Type 0 where
  spelled : text ≡ decimal e.number ++ 32 ∷ (decimal e.from ++ 32 ∷ (decimal e.to ++ 32 ∷ e.rest))
  next : e.number ≡ count + 1
  small : e.number < 2 ^ 64
  from : e.from ≤ MAX_NODES
  to : e.to ≤ MAX_NODES

at_most : (n high : ℕ) → (nat_le 0 n && nat_le n high) ≡ true → n ≤ high
at_most n high h = let top = right_of (nat_le 0 n) (nat_le n high) h in grind (arith, nat_tests)

ends_takes : (count : ℕ) (text : List ℕ) (e : Ends) → ends_of count text ≡ Some e → ReadEnds count text e
unfolding ends_of
ends_takes count text e h =
    let words = bind_some (cut 32 text) _ e h in
    let ends = bind_some (cut 32 words.0.1) _ e words.2 in
    let others = bind_some (cut 32 ends.0.1) _ e ends.2 in
    let number = bind_some (next_number count words.0.0) _ e others.2 in
    let from = bind_some (number_within 0 MAX_NODES ends.0.0) _ e number.2 in
    let to = bind_some (number_within 0 MAX_NODES others.0.0) _ e from.2 in
    let c = cut_takes 32 text words.0 words.1 in
    let d = cut_takes 32 words.0.1 ends.0 ends.1 in
    let o = cut_takes 32 ends.0.1 others.0 others.1 in
    let n = next_takes count words.0.0 number.0 number.1 in
    let f = within_takes 0 MAX_NODES ends.0.0 from.0 from.1 in
    let t = within_takes 0 MAX_NODES others.0.0 to.0 to.1 in
    let made : Ends = record { number = number.0; from = from.0; to = to.0; rest = others.0.1 } in
    subst (ReadEnds count text) (some_is made e to.2) (record {
      spelled = c.whole ∙ ap (λ (x : List ℕ). x ++ 32 ∷ words.0.1) n.0 ∙ ap (λ (x : List ℕ). decimal number.0 ++ 32 ∷ x)
          (d.whole ∙ ap (λ (x : List ℕ). x ++ 32 ∷ ends.0.1) f.spelled ∙ ap (λ (x : List ℕ). decimal from.0 ++ 32 ∷ x)
          (o.whole ∙ ap (λ (x : List ℕ). x ++ 32 ∷ others.0.1) t.spelled));
      next = n.1;
      small = n.2;
      from = at_most from.0 MAX_NODES f.fits;
      to = at_most to.0 MAX_NODES t.fits;
    })

message_takes : (s : Standing) (text : List ℕ) (line : Line) → allows s.stage forms.Message ≡ true → message_of s text ≡ Some line → Read s (codes "m") text line
unfolding message_of
message_takes s text line stage h =
    let ends = bind_some (ends_of s.messages text) _ line h in
    let frame = bind_some (frame_in s.version ends.0.rest) _ line ends.2 in
    let e = ends_takes s.messages text ends.0 ends.1 in
    let f = frame_takes_text s.version ends.0.rest frame.0 frame.1 in
    subst (Read s (codes "m") text) (some_is (MessageLine ends.0.number ends.0.from ends.0.to frame.0) line frame.2) (record {
      stands = (stage, e.next, e.small, e.from, e.to, f.1);
      spelled = ap (λ (x : List ℕ). codes "m" ++ 32 ∷ x) (e.spelled ∙ ap (λ (x : List ℕ). decimal ends.0.number ++ 32 ∷ (decimal ends.0.from ++ 32 ∷ (decimal ends.0.to ++ 32 ∷ x))) f.0)
          ∙ sym (message_parts ends.0.number ends.0.from ends.0.to frame.0);
    })

order_line_takes : (s : Standing) (text : List ℕ) (line : Line) → allows s.stage forms.Order ≡ true → order_of text ≡ Some line → Read s (codes "order") text line
unfolding order_of
order_line_takes s text line stage h =
    let order = bind_some (order_in text) _ line h in
    let o = order_takes text order.0 order.1 in
    subst (Read s (codes "order") text) (some_is (OrderLine order.0) line order.2) (record {
      stands = (stage, o.1);
      spelled = ap (λ (x : List ℕ). codes "order" ++ 32 ∷ x) o.0;
    })

end_takes : (s : Standing) (text : List ℕ) (line : Line) → allows s.stage forms.End ≡ true → end_of s text ≡ Some line → Read s (codes "end") text line
unfolding end_of
end_takes s text line stage h =
    let words = bind_some (cut 32 text) _ line h in
    let events = bind_some (number_in words.0.0) _ line words.2 in
    let messages = bind_some (number_in words.0.1) _ line events.2 in
    let c = cut_takes 32 text words.0 words.1 in
    let x = number_in_takes words.0.0 events.0 events.1 in
    let y = number_in_takes words.0.1 messages.0 messages.1 in
    let k = kept ((events.0 == s.events) && (messages.0 == s.messages)) (EndLine events.0 messages.0) line messages.2 in
    let same_events = eqb-true events.0 s.events (left_of (events.0 == s.events) (messages.0 == s.messages) k.0) in
    let same_messages = eqb-true messages.0 s.messages (right_of (events.0 == s.events) (messages.0 == s.messages) k.0) in
    subst (Read s (codes "end") text) k.1 (record {
      stands = (stage, same_events, same_messages);
      spelled = ap (λ (z : List ℕ). codes "end" ++ 32 ∷ z) (c.whole ∙ ap (λ (z : List ℕ). z ++ 32 ∷ words.0.1) x.0 ∙ ap (λ (z : List ℕ). decimal events.0 ++ 32 ∷ z) y.0) ∙ sym (end_parts events.0 messages.0);
    })

note_line_takes : (s : Standing) (word text : List ℕ) (line : Line) → allows s.stage forms.Note ≡ true → note_of s word text ≡ Some line → Read s word text line
unfolding note_of
note_line_takes s word text line stage h =
    let note = bind_some (note_in s.version s.shards word text) _ line h in
    let n = note_takes s.version s.shards word text note.0 note.1 in
    subst (Read s word text) (some_is (NoteLine note.0) line note.2) (record { stands = (stage, n.1); spelled = n.0 })

-- ---- whole lines

-- the word by which a line has this form
abbrev Opens : LineForm → List ℕ → Type 0
Opens forms.Head word = word ≡ codes "trace"
Opens forms.Event word = word ≡ codes "e"
Opens forms.Message word = word ≡ codes "m"
Opens forms.Order word = word ≡ codes "order"
Opens forms.End word = word ≡ codes "end"
Opens forms.Note word = Unit {0}

form_opens : (word : List ℕ) → Opens (form_of word) word
form_opens word = try (codes "trace") forms.Head _ (λ e. e) (try (codes "e") forms.Event _ (λ e. e) (try (codes "m") forms.Message _ (λ e. e)
    (try (codes "order") forms.Order _ (λ e. e) (try (codes "end") forms.End _ (λ e. e) tt)))) where
      try : (w : List ℕ) (form other : LineForm) → (word ≡ w → Opens form word) → Opens other word → Opens (cond (is_word w word) form other) word
      try w form other same else = go (is_word w word) refl where
        go : (b : Bool) → is_word w word ≡ b → Opens (cond b form other) word
        go true e = same (word_is w word e)
        go false e = else

form_takes : (form : LineForm) (s : Standing) (word text : List ℕ) (line : Line) → Opens form word → allows s.stage form ≡ true → line_as form s word text ≡ Some line → Read s word text line
form_takes forms.Head s word text line e stage h = rw e (head_takes s text line stage h)
form_takes forms.Event s word text line e stage h = rw e (event_takes s text line stage h)
form_takes forms.Note s word text line e stage h = note_line_takes s word text line stage h
form_takes forms.Message s word text line e stage h = rw e (message_takes s text line stage h)
form_takes forms.Order s word text line e stage h = rw e (order_line_takes s text line stage h)
form_takes forms.End s word text line e stage h = rw e (end_takes s text line stage h)

words_take : (s : Standing) (word text : List ℕ) (line : Line) → line_of s word text ≡ Some line → Read s word text line
unfolding line_of
words_take s word text line h =
    let k = taken (allows s.stage (form_of word)) (line_as (form_of word) s word text) line h in
    form_takes (form_of word) s word text line (form_opens word) k.0 k.1

pub line_takes : (s : Standing) (text : List ℕ) (line : Line) → line_in s text ≡ Some line → MayStand s line × (text ≡ line_text line)
unfolding line_in
line_takes s text line h =
    let words = bind_some (cut 32 text) _ line h in
    let c = cut_takes 32 text words.0 words.1 in
    let r = words_take s words.0.0 words.0.1 line words.2 in
    (r.stands, c.whole ∙ r.spelled)

-- ---- what is spelled

enter : (s : Standing) (word text : List ℕ) → lacks 32 word ≡ true → line_in s (word ++ 32 ∷ text) ≡ line_of s word text
unfolding line_in
enter s word text h = rw (cut_again 32 word text h) refl

head_again : (s : Standing) (version : ℕ) (rule : Rule) (shards : ℕ) → MayStand s (HeadLine version rule shards)
    → line_of s (codes "trace") (decimal version ++ 32 ∷ (rule_text rule ++ 32 ∷ decimal shards)) ≡ Some (HeadLine version rule shards)
unfolding line_of head_of
head_again s version rule shards h =
    let small_version = small_within 1 2 version h.1 (omega arith) in
    let small_shards = small_within 1 MAX_SHARDS shards h.2 (omega arith) in
    rw (
      h.0,
      cut_again 32 (decimal version) (rule_text rule ++ 32 ∷ decimal shards) (decimal_lacks 32 version (omega arith) small_version),
      cut_again 32 (rule_text rule) (decimal shards) (rule_lacks 32 rule (omega arith)),
      within_again 1 2 version h.1 small_version,
      word_names rule,
      within_again 1 MAX_SHARDS shards h.2 small_shards,
    ) refl

event_again : (s : Standing) (k : ℕ) (r : Result1) → MayStand s (EventLine k r) → line_of s (codes "e") (decimal k ++ 32 ∷ result_text r) ≡ Some (EventLine k r)
unfolding line_of event_of
event_again s k r h =
    rw (h.0, cut_again 32 (decimal k) (result_text r) (decimal_lacks 32 k (omega arith) h.2), next_again s.events k h.1 h.2, result_again r h.3) refl

ends_again : (count number from to : ℕ) (rest : List ℕ) → number ≡ count + 1 → number < 2 ^ 64 → from ≤ MAX_NODES → to ≤ MAX_NODES
    → ends_of count (decimal number ++ 32 ∷ (decimal from ++ 32 ∷ (decimal to ++ 32 ∷ rest))) ≡ Some (record { number = number; from = from; to = to; rest = rest })
unfolding ends_of
ends_again count number from to rest next small from_fits to_fits =
    let f = both (nat_le 0 from) (nat_le from MAX_NODES) (grind (arith, nat_tests)) (grind (arith, nat_tests)) in
    let t = both (nat_le 0 to) (nat_le to MAX_NODES) (grind (arith, nat_tests)) (grind (arith, nat_tests)) in
    let small_from : from < 2 ^ 64 = omega arith in
    let small_to : to < 2 ^ 64 = omega arith in
    rw (
      cut_again 32 (decimal number) (decimal from ++ 32 ∷ (decimal to ++ 32 ∷ rest)) (decimal_lacks 32 number (omega arith) small),
      cut_again 32 (decimal from) (decimal to ++ 32 ∷ rest) (decimal_lacks 32 from (omega arith) small_from),
      cut_again 32 (decimal to) rest (decimal_lacks 32 to (omega arith) small_to),
      next_again count number next small,
      within_again 0 MAX_NODES from f small_from,
      within_again 0 MAX_NODES to t small_to,
    ) refl

message_again : (s : Standing) (number from to : ℕ) (frame : List ℕ) → MayStand s (MessageLine number from to frame)
    → line_of s (codes "m") (decimal number ++ 32 ∷ (decimal from ++ 32 ∷ (decimal to ++ 32 ∷ frame_text frame))) ≡ Some (MessageLine number from to frame)
unfolding line_of message_of
message_again s number from to frame h =
    rw (h.0, ends_again s.messages number from to (frame_text frame) h.1 h.2 h.3 h.4, frame_reads_again s.version frame h.5) refl

order_line_again : (s : Standing) (order : List TxId) → MayStand s (OrderLine order) → line_of s (codes "order") (order_text order) ≡ Some (OrderLine order)
unfolding line_of order_of
order_line_again s order h = rw (h.0, order_again order h.1) refl

end_again : (s : Standing) (events messages : ℕ) → IsStanding s → MayStand s (EndLine events messages)
    → line_of s (codes "end") (decimal events ++ 32 ∷ decimal messages) ≡ Some (EndLine events messages)
unfolding line_of end_of
end_again s events messages i h =
    let small_events : events < 2 ^ 64 = rw h.1 i.events in
    let small_messages : messages < 2 ^ 64 = rw h.2 i.messages in
    rw (
      h.0,
      cut_again 32 (decimal events) (decimal messages) (decimal_lacks 32 events (omega arith) small_events),
      number_in_again events small_events,
      number_in_again messages small_messages,
      eq-eqb events s.events h.1,
      eq-eqb messages s.messages h.2,
    ) refl

note_line_again : (s : Standing) (note : Note) → IsStanding s → MayStand s (NoteLine note) → line_in s (note_text note) ≡ Some (NoteLine note)
unfolding note_of
note_line_again s note i h =
    let few = i.shards in
    let n = note_again s.version s.shards note (omega arith) h.1 in
    ap (line_in s) n.parts ∙ enter s n.word n.text n.solid ∙ n.only_a_note s ∙ rw (h.0, n.again) refl

pub line_again : (s : Standing) (line : Line) → IsStanding s → MayStand s line → line_in s (line_text line) ≡ Some line
line_again s (HeadLine version rule shards) i h =
    ap (line_in s) (head_parts version rule shards) ∙ enter s (codes "trace") (decimal version ++ 32 ∷ (rule_text rule ++ 32 ∷ decimal shards)) refl ∙ head_again s version rule shards h
line_again s (EventLine k r) i h = ap (line_in s) (event_parts k r) ∙ enter s (codes "e") (decimal k ++ 32 ∷ result_text r) refl ∙ event_again s k r h
line_again s (NoteLine note) i h = note_line_again s note i h
line_again s (MessageLine number from to frame) i h =
    ap (line_in s) (message_parts number from to frame) ∙ enter s (codes "m") (decimal number ++ 32 ∷ (decimal from ++ 32 ∷ (decimal to ++ 32 ∷ frame_text frame))) refl ∙ message_again s number from to frame h
line_again s (OrderLine order) i h = enter s (codes "order") (order_text order) refl ∙ order_line_again s order h
line_again s (EndLine events messages) i h = ap (line_in s) (end_parts events messages) ∙ enter s (codes "end") (decimal events ++ 32 ∷ decimal messages) refl ∙ end_again s events messages i h
