use Rattle.std.proofs.Common.{◌≡◌, ◌∙◌, rules, ap, true, Some, Option}
use Rattle.clap.specs.Words.{Rule, rule_of}
use Rattle.clap.specs.declared.builder.action.ArgAction.TheVariants.{Set}
use Rattle.clap.specs.declared.builder.value_parser.ValueParser.{ValueParser}
use Rattle.clap.specs.declared.builder.value_parser.ValueParser.TheVariants.{Names}
use Rattle.net_words.specs.Definition.{Lent, mode_words}
use Rattle.net_words.proofs.definition.mode.Goals as goal

pub returns : goal.returns
returns c =
    let given = c.value_parser.ensures.given in
    let modes : Lent mode_words = record { list = c.as_slice.result; are = search rules } in
    let parser : given.0 ≡ Names modes.list = given.2 in
    let parsed : c.value_parser.result.value_parser ≡ Some (Names modes.list) = given.1 ∙ ap (λ (q : ValueParser). Some q) parser in
    let made : rule_of c.help.result ≡ record (rule_of c.new.result) { action = Some Set; parser = c.value_parser.result.value_parser; required = true } = search rules in
    let named : ◌≡◌ {A = Rule} (record (rule_of c.new.result) { action = Some Set; parser = c.value_parser.result.value_parser; required = true }) (record (rule_of c.new.result) { action = Some Set; parser = Some (Names modes.list); required = true }) = ap (λ (q : Option ValueParser). record (rule_of c.new.result) { action = Some Set; parser = q; required = true }) parsed in
    record { rule = (modes, made ∙ (named ∙ ap (λ (r : Rule). record r { action = Some Set; parser = Some (Names modes.list); required = true }) c.new.ensures.rule)) }
