use Rattle.std.proofs.Common.{◌∷◌, length, Some, sym, ap, ◌∙◌, arith}
use Rattle.std.proofs.lemmas.List.{length-append}
use Rattle.text_words.specs.Words.{words_of}
use Rattle.trace_text.specs.Words.{each_txn}
use Rattle.trace_text.proofs.Cuts.{cut_takes}
use Rattle.trace_text.proofs.WordLists.{before, before_none, one_more, last_one, none_of_two, none_of_one}
use Rattle.trace_text.proofs.words.txns_in.Goals as goal

pub words-init : goal.words-init
words-init c = sym (rw c.new-txns.ensures.items (before_none (each_txn (words_of c.args.text.now))))

pub words-preserved : goal.words-preserved
words-preserved c =
    c.words.invariant ∙ one_more c.words.left.now (c.in-Some.word.now, c.in-Some.more.now) c.in-Some-txn_in.txn c.words.txns.items (sym c.in-Some.ensures) (sym c.in-Some-txn_in.ensures)
    ∙ ap (λ ts. before ts (each_txn (words_of c.in-Some.more.now))) (sym c.in_ok-push-in-Some.ensures.items)

pub words-smaller : goal.words-smaller
words-smaller c =
    let cutting = cut_takes 32 c.words.left.now (c.in-Some.word.now, c.in-Some.more.now) (sym c.in-Some.ensures) in
    let size = ap length cutting.whole in
    omega (arith, size, length-append c.in-Some.word.now (32 ∷ c.in-Some.more.now))

pub returns-in_default : goal.returns-in_default
returns-in_default c =
    sym (c.words.invariant ∙ none_of_two c.words.left.now (c.in-Some.word.now, c.in-Some.more.now) c.words.txns.items (sym c.in-Some.ensures) (sym c.in_default.ensures))

pub returns-in_default-txn_in : goal.returns-in_default-txn_in
returns-in_default-txn_in c =
    sym (c.words.invariant ∙ none_of_one c.words.left.now c.words.txns.items (sym c.in-None.ensures) (sym c.in_default-txn_in.ensures))

pub returns-in-None : goal.returns-in-None
returns-in-None c =
    ap Some c.in_ok-push-in-None.ensures.items
    ∙ sym (c.words.invariant ∙ last_one c.words.left.now c.in-Some-txn_in-2.txn c.words.txns.items (sym c.in-None.ensures) (sym c.in-Some-txn_in-2.ensures))
