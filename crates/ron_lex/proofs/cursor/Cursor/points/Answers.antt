use Rattle.std.proofs.Common.{◌≡◌, true, codes, subst, sym, ap, ◌∙◌}
use Rattle.std.proofs.lemmas.Result.{err_from_is_err_and}
use Rattle.ron_spec_words.specs.AnyInteger.{opens_integer}
use Rattle.ron_lex_text.proofs.StretchLemmas.{literals}
use Rattle.ron_lex.specs.Range.{start_view}
use Rattle.ron_lex.proofs.RangeLemmas.{closed_end_refused, open_end_refused}
use Rattle.ron_lex.specs.Turns.{GoesOver}
use Rattle.ron_lex.proofs.TurnLemmas.{mark_over, moved_on, moved_ok, moved_as, refused_as}
use Rattle.ron_lex.proofs.cursor.Cursor.points.Goals as goal

pub returns-in_err-end-clause-value : goal.returns-in_err-end-clause-value
unfolding literals
returns-in_err-end-clause-value c =
    let p = err_from_is_err_and c.from_residual.result c.from_residual.ensures.1 in
    rw p.1 (closed_end_refused (start_view c.args.start) _ _ _ _ c.if-take_text.ensures.taken c.in_err-end.ensures.value)

pub returns-in_err-end-2-clause-value : goal.returns-in_err-end-2-clause-value
unfolding literals
returns-in_err-end-2-clause-value c =
    let p = err_from_is_err_and c.from_residual-in_err-end-2.result c.from_residual-in_err-end-2.ensures.1 in
    let stays = ap (λ s. s.rest) c.if-take_text.ensures.taken.1 in
    let opens : opens_integer c.take_text-2.new.self.rest ≡ true = rw (← c.self.view_is) (sym c.if-not-opens_integer.ensures) in
    rw p.1 (open_end_refused (start_view c.args.start) _ _ _ _ (sym stays ∙ c.if-not-take_text.ensures.taken) c.if-take_text.ensures.taken.0 opens
    c.in_err-end-2.ensures.value)

pub returns-in_err-end-clause-turns : goal.returns-in_err-end-clause-turns
unfolding literals
returns-in_err-end-clause-turns c =
    let p = err_from_is_err_and c.from_residual.result c.from_residual.ensures.1 in
    let over = mark_over (codes "..=") c.args.self.now c.take_text.new.self c.if-take_text.ensures.taken c.take_text.ensures.turns in
    rw p.1 (refused_as 2 c.args.self.now c.untyped_integer.new.self _ _
    (moved_on 2 c.args.self.now c.take_text.new.self c.untyped_integer.new.self _ over c.in_err-end.ensures.turns))

pub returns-then-take_text-clause-turns : goal.returns-then-take_text-clause-turns
unfolding literals
returns-then-take_text-clause-turns c =
    let over = mark_over (codes "..=") c.args.self.now c.take_text.new.self c.if-take_text.ensures.taken c.take_text.ensures.turns in
    moved_as 2 c.args.self.now c.untyped_integer.new.self _ _
    (moved_on 2 c.args.self.now c.take_text.new.self c.untyped_integer.new.self _ over c.in_ok-end.ensures.turns)

pub returns-then-not-opens_integer-clause-turns : goal.returns-then-not-opens_integer-clause-turns
unfolding literals
returns-then-not-opens_integer-clause-turns c =
    let over = mark_over (codes "..") c.take_text.new.self c.take_text-2.new.self c.if-not-take_text.ensures.taken c.take_text-2.ensures.turns in
    moved_ok 2 c.args.self.now c.take_text-2.new.self _ (subst (λ old. GoesOver 2 old c.take_text-2.new.self) c.if-take_text.ensures.taken.1 over)

pub returns-in_err-end-2-clause-turns : goal.returns-in_err-end-2-clause-turns
unfolding literals
returns-in_err-end-2-clause-turns c =
    let p = err_from_is_err_and c.from_residual-in_err-end-2.result c.from_residual-in_err-end-2.ensures.1 in
    let over = mark_over (codes "..") c.take_text.new.self c.take_text-2.new.self c.if-not-take_text.ensures.taken c.take_text-2.ensures.turns in
    let from_start = subst (λ old. GoesOver 2 old c.take_text-2.new.self) c.if-take_text.ensures.taken.1 over in
    rw p.1 (refused_as 2 c.args.self.now c.untyped_integer-2.new.self _ _
    (moved_on 2 c.args.self.now c.take_text-2.new.self c.untyped_integer-2.new.self _ from_start c.in_err-end-2.ensures.turns))

pub returns-clause-turns : goal.returns-clause-turns
unfolding literals
returns-clause-turns c =
    let over = mark_over (codes "..") c.take_text.new.self c.take_text-2.new.self c.if-not-take_text.ensures.taken c.take_text-2.ensures.turns in
    let from_start = subst (λ old. GoesOver 2 old c.take_text-2.new.self) c.if-take_text.ensures.taken.1 over in
    moved_as 2 c.args.self.now c.untyped_integer-2.new.self _ _
    (moved_on 2 c.args.self.now c.take_text-2.new.self c.untyped_integer-2.new.self _ from_start c.in_ok-end-2.ensures.turns)
