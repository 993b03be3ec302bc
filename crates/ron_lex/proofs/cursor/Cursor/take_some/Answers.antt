use Rattle.std.proofs.Common.{◌≡◌, ◌≤◌, List, ℕ, chars, drop, length, refl, ap, arith}
use Rattle.std.proofs.lemmas.List.{length-append}
use Rattle.ron_lex_text.specs.Stretch.{IsSuffix}
use Rattle.ron_lex_text.proofs.StretchLemmas.{end_of_end, end_behind_char}
use Rattle.ron_lex_text.proofs.StretchLemmas.{literals}
use Rattle.ron_lex.proofs.GapLemmas.{gap_end}
use Rattle.ron_lex.proofs.TurnLemmas.{look_behind, behind_some, gap_look, look_nothing, counted_past, past_gap_look}
use Rattle.ron_lex.proofs.cursor.Cursor.take_some.Goals as goal

pub pass_to-requires : goal.pass_to-requires
pass_to-requires c =
    rw (← c.self.view_is) (end_of_end _ _ _ (gap_end _ _ c.skip_gap-opening.ensures.value) (record { front = _; is = c.in-Some.ensures.joined }))

pub pass_to-requires-2 : goal.pass_to-requires-2
pass_to-requires-2 c = rw c.pass_to.ensures.rest (end_behind_char _ _ _ c.in-Some-strip_char.ensures)

no_longer : {rest text : List ℕ} → IsSuffix rest text → length rest ≤ length text
no_longer {rest} h = omega (arith, ap length h.is, length-append h.front rest)

pub returns-clause-shorter : goal.returns-clause-shorter
returns-clause-shorter c _ =
    let le = no_longer (end_of_end _ _ _ (gap_end _ _ c.skip_gap-opening.ensures.value) (record { front = _; is = c.in-Some.ensures.joined })) in
    rw (← c.self.view_is) (omega (arith, le, ap length c.in-Some-strip_char.ensures, ap length c.pass_to-2.ensures.rest))

pub returns-clause-no_longer : goal.returns-clause-no_longer
returns-clause-no_longer c =
    let le = no_longer (end_of_end _ _ _ (gap_end _ _ c.skip_gap-opening.ensures.value) (record { front = _; is = c.in-Some.ensures.joined })) in
    rw (← c.self.view_is) (omega (arith, le, ap length c.in-Some-strip_char.ensures, ap length c.pass_to-2.ensures.rest))

pub look_to-requires : goal.look_to-requires
unfolding literals
look_to-requires c =
    rw (← c.self.view_is) (look_behind (behind_some _ _ c.in-Some.ensures.joined) (gap_look _ _ _ c.skip_gap-opening.ensures.value c.end_of_look.ensures))

pub returns-in_default-clause-turns : goal.returns-in_default-clause-turns
returns-in_default-clause-turns c = look_nothing c.args.self.now

pub returns-in_default-strip_char-clause-least : goal.returns-in_default-strip_char-clause-least
unfolding literals
returns-in_default-strip_char-clause-least c _ =
    let behind : drop 4 c.args.self.now.rest ≡ chars c.in-Some.behind.now = rw (← c.self.view_is, c.in-Some.ensures.joined) refl in
    rw behind (counted_past (chars c.in-Some.behind.now) _ c.args.self.now c.look_to.new.self c.look_to.ensures.all
    (past_gap_look _ _ _ c.skip_gap-opening.ensures.value c.end_of_look.ensures))
