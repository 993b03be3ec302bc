use Rattle.std.proofs.Common.{◌≡◌, length, refl, arith}
use Rattle.ron_data.proofs.FilledLemmas.{all_in_turn, all_made}
use Rattle.ron_data.proofs.slots.Slots.into_fields.Goals as goal

pub returns-then-len-clause-value : goal.returns-then-len-clause-value
returns-then-len-clause-value c =
    let all : length c.args.self.in_turn.items ≡ length c.args.list.now.fields.items =
    omega (arith, c.if-len.true, c.len.ensures, c.len-2.ensures, c.args.self.in_turn.ok.0, c.args.list.now.fields.ok.0) in
    all_made _ _ _ _ _ (all_in_turn _ c.args.self.in_turn.items c.args.self.others.items c.requires.named.0 all) refl

pub returns-then-len-clause-parts : goal.returns-then-len-clause-parts
returns-then-len-clause-parts c =
    let all : length c.args.self.in_turn.items ≡ length c.args.list.now.fields.items =
    omega (arith, c.if-len.true, c.len.ensures, c.len-2.ensures, c.args.self.in_turn.ok.0, c.args.list.now.fields.ok.0) in
    (all_in_turn _ c.args.self.in_turn.items c.args.self.others.items c.requires.named.0 all).parts
