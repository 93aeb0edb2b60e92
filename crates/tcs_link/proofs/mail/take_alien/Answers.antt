-- The first alien is found by its place.
use Rattle.std.proofs.Common.{◌≡◌, ◌==◌, refl, ap, ◌∙◌, Some, None}
use Rattle.std.specs.List.{position}
use Rattle.tcs_link.specs.declared.mail.Alien.{Alien}
use Rattle.tcs_link.specs.Network.{arrives, aliens_for}
use Rattle.tcs_link.proofs.FirstTaken.{none_for, rest_none, first_for, rest_for}
use Rattle.tcs_link.proofs.mail.take_alien.Goals as goal

pub returns-in-None-clause-next : goal.returns-in-None-clause-next
returns-in-None-clause-next c =
    let none : position (λ (alien : Alien). alien.to == c.args.node) c.args.aliens.now.items ≡ None = cc in
    rw (none_for c.args.aliens.now.items c.args.node none) refl

pub returns-in-None-clause-rest : goal.returns-in-None-clause-rest
returns-in-None-clause-rest c = λ n.
    let none : position (λ (alien : Alien). alien.to == c.args.node) c.args.aliens.now.items ≡ None = cc in
    rest_none c.args.aliens.now.items c.args.node none n

pub returns-in-Some-clause-next : goal.returns-in-Some-clause-next
returns-in-Some-clause-next c =
    let found : position (λ (alien : Alien). alien.to == c.args.node) c.args.aliens.now.items ≡ Some c.in-Some.place = cc in
    ap (λ (alien : Alien). Some (arrives alien)) c.remove-alien.ensures.value ∙ first_for c.args.aliens.now.items c.args.node c.in-Some.place c.remove-alien.result found

pub returns-in-Some-clause-rest : goal.returns-in-Some-clause-rest
returns-in-Some-clause-rest c = λ n.
    let found : position (λ (alien : Alien). alien.to == c.args.node) c.args.aliens.now.items ≡ Some c.in-Some.place = cc in
    ap (aliens_for n) c.remove-alien.ensures.items ∙ rest_for c.args.aliens.now.items c.args.node c.in-Some.place c.remove-alien.result found n
