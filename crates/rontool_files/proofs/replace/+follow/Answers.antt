use Rattle.std.proofs.Common.{◌≡◌, ◌∙◌, Some, ap, sym, string_bytes}
use Rattle.rontool_files.specs.Thing.Thing.{link}
use Rattle.rontool_files.proofs.FollowLemmas.{end_through}
use Rattle.rontool_files.proofs.replace.+follow.Goals as goal

pub returns-in_ok-to-in-Link-clause-end : goal.returns-in_ok-to-in-Link-clause-end
returns-in_ok-to-in-Link-clause-end g n c = λ told.
    let paths = g.S.Store.stands c.args.store.now in
    let path = c.args.path.now in
    let same = c.in_ok-kind.ensures.same told in
    let leads : paths path ≡ Some (link c.as_str.result.now) =
    ap (λ p. p path) (sym same) ∙ c.in_ok-to-in-Link.ensures.target told ∙ ap (λ to. Some (link to)) (sym c.as_str.ensures.value) in
    end_through string_bytes c.follow.result paths (g.S.Store.stands c.target.new.self) c.args.turns path c.as_str.result.now
    c.if-turns-eq0.false (c.in_ok-to-in-Link.ensures.same told ∙ same) leads (c.follow.ensures.end told)
