use Rattle.std.proofs.Common.{◌≡◌, [], ◌∷◌, ◌++◌, take, slice_set, refl, sym, ap, ◌∙◌, arith, rules}
use Rattle.std.proofs.lemmas.Grind.{take-set_at}
use Rattle.ron_test_public.proofs.devices.DrippingSource.pull.Goals as goal

pub returns-in-Some-clause-bytes : goal.returns-in-Some-clause-bytes
returns-in-Some-clause-bytes c =
    let buffer = c.args.buffer.now in
    let first = c.in-Some.first.now in
    let held : c.args.self.now.rest.now ≡ first ∷ c.in-Some.rest.now = search rules in
    let given : take 1 (slice_set buffer 0 first) ≡ first ∷ [] = take-set_at buffer 0 1 first refl (search rules) in
    (held ∙ ap (λ t. t ++ c.in-Some.rest.now) (sym given), λ never room. absurd (omega (arith, never)))
