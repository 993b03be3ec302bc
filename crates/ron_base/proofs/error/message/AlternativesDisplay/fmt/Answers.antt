use Rattle.std.proofs.Common.{◌≡◌, ℕ, ◌≤◌, ◌-◌, List, [], ◌∷◌, ◌++◌, length, get_or, take, drop, codes, String, Global, refl, ap, ◌∙◌, arith}
use Rattle.std.proofs.lemmas.Grind.{common_steps}
use Rattle.std.proofs.Output.{has_written_append, has_written_of_eq}
use Rattle.std.specs.Fmt.{HasWritten}
use Rattle.ron_base.specs.Alternatives.{shown, alternatives, further}
use Rattle.ron_base.specs.Name.{name_text}
use Rattle.ron_base.proofs.error.message.AlternativesDisplay.fmt.Goals as goal

three_or_more : (none : List ℕ) (names : List (String Global)) (a : String Global) → 3 ≤ length names → a ≡ get_or names 0 a
    → (codes "expected one of " ++ shown a) ++ (further (drop 1 names) ++ codes " instead") ≡ alternatives none names
three_or_more none [] a h is = absurd (omega arith)
three_or_more none (x ∷ []) a h is = absurd (omega arith)
three_or_more none (x ∷ y ∷ []) a h is = absurd (omega arith)
three_or_more none (x ∷ y ∷ z ∷ names) a h is = ap (λ b. codes "expected one of " ++ (shown b ++ (further (y ∷ z ∷ names) ++ codes " instead"))) is

all_but_first : (names : List (String Global)) → take (length names - 1) (drop 1 names) ≡ drop 1 names
all_but_first names = grind (arith, common_steps)

pub returns-in_ok-write_further-in-len3-up-clause-writes : goal.returns-in_ok-write_further-in-len3-up-clause-writes
returns-in_ok-write_further-in-len3-up-clause-writes g c plain ok =
    let took = g.W.Write.write_str_gives in
    let names = c.args.self.now.names.now in
    let first : HasWritten took c.args.f.now (codes "expected one of " ++ name_text c.as_str-in-len3-up.result.now) c.write-in-len3-up.new.self =
    c.in_ok-write-in-len3-up.ensures.writes plain refl in
    let second : HasWritten took c.write-in-len3-up.new.self (further (take (length names - 1) (drop 1 names))) c.write_further.new.f =
    c.in_ok-write_further-in-len3-up.ensures first.plain refl in
    let third : HasWritten took c.write_further.new.f (codes " instead") c.write_str.new.self = c.write_str.ensures.writes second.plain ok in
    let e =
    ap (λ t. (codes "expected one of " ++ name_text t) ++ (further (take (length names - 1) (drop 1 names)) ++ codes " instead"))
    c.as_str-in-len3-up.ensures.value
    ∙ ap (λ t. (codes "expected one of " ++ shown c.a-item-2.result) ++ (further t ++ codes " instead")) (all_but_first names)
    ∙ three_or_more c.args.self.now.none.now names c.a-item-2.result c.in-len3-up.len_at_least c.a-item-2.is in
    has_written_of_eq _ _ _ _ _ e (has_written_append _ _ _ _ _ _ first (has_written_append _ _ _ _ _ _ second third))
