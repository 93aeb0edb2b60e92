use Rattle.std.proofs.Common.{◌≡◌, ◌∙◌, ap, ap₂, refl, true, false}
use Rattle.std.proofs.lemmas.Result.{IfOk-weaker}
use Rattle.clap.specs.Simple.{app_of_fields, on_top}
use Rattle.clap.specs.Words.{Rule, app_of, rule_of, with_rule}
use Rattle.clap.specs.declared.builder.arg.Arg.{Arg}
use Rattle.net_words.specs.Definition.{bare}
use Rattle.net_words.proofs.OwnArguments.{simple_parts}
use Rattle.net_words.proofs.definition.command.Goals as goal

is_local : (a : Arg) (r : Rule) → rule_of a ≡ r → r.is_simple ≡ true → a.global ≡ false
is_local a r is simple = (simple_parts a (ap (λ (x : Rule). x.is_simple) is ∙ simple)).1

pub returns : goal.returns
returns c =
    let mode = c.mode.ensures.rule in
    let named : app_of c.version.result ≡ on_top (λ s. record s { has_version = true }) (app_of c.new.result) = ap app_of_fields c.version.ensures in
    let plain : app_of c.no_binary_name.result ≡ on_top (λ s. record s { no_binary_name = true }) (app_of c.version.result) = ap app_of_fields c.no_binary_name.ensures in
    let told : app_of c.about.result ≡ app_of c.no_binary_name.result = ap app_of_fields c.about.ensures in
    let bare_is : app_of c.about.result ≡ bare = told ∙ (plain ∙ ap (on_top (λ s. record s { no_binary_name = true })) (named
    ∙ ap (on_top (λ s. record s { has_version = true })) c.new.ensures.app)) in
    let with_mode = c.in_ok-arg.ensures.shape (is_local c.mode.result _ mode.1 refl) ∙ ap₂ with_rule bare_is mode.1 in
    let with_id = c.in_ok-arg-2.ensures.shape (is_local c.id.result _ c.id.ensures.rule refl) ∙ ap₂ with_rule with_mode c.id.ensures.rule in
    let with_port = c.in_ok-arg-3.ensures.shape (is_local c.port.result _ c.port.ensures.rule refl) ∙ ap₂ with_rule with_id c.port.ensures.rule in
    IfOk-weaker c.arg-4.result _ _ (λ command added. (mode.0, added.shape (is_local c.miss.result _ c.miss.ensures.rule refl) ∙ ap₂ with_rule with_port c.miss.ensures.rule)) c.arg-4.ensures
