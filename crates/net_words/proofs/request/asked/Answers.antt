use Rattle.std.proofs.Common.{◌≡◌, ◌∙◌, ap, rules, sym, codes, Some}
use Rattle.clap.specs.Words.{found_of}
use Rattle.clap.proofs.WalkLemmas.{first_value-rows, one_text-rows}
use Rattle.net_words.specs.Modes.{mode_in}
use Rattle.net_words.specs.Requests.{number_or}
use Rattle.net_words.proofs.ModeNames.{holds_mode}
use Rattle.net_words.proofs.request.asked.Goals as goal

pub returns : goal.returns
returns c readable =
    let found = found_of c.args.matches.now in
    let id = c.id.ensures readable.id in
    let port = c.port.ensures readable.port in
    let miss = c.miss.ensures readable.miss in
    let named : mode_in c.in_ok-get_str.field-0.now ≡ Some c.in_ok-mode.mode = search rules in
    let mode = holds_mode found c.in_ok-get_str.field-0.now c.in_ok-mode.mode readable.mode (search rules) named in (
      record {
        mode = sym (first_value-rows found (codes "mode")) ∙ mode;
        id = id.0 ∙ ap (λ o. number_or o 0) (one_text-rows found (codes "id"));
        port = port.0 ∙ ap (λ o. number_or o 47000) (one_text-rows found (codes "port"));
        miss = miss.0 ∙ ap (λ o. number_or o 100) (one_text-rows found (codes "miss"));
      },
      record { id = id.1; port = port.1; miss = miss.1 },
    )
