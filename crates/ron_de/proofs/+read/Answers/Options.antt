-- Options.
use Rattle.std.proofs.Common.{rules, ◌≡◌, length, suc, refl, sym, ◌∙◌, ap, arith, subst, false, ℕ, codes, ◌∷◌, Ok, Err}
use Rattle.std.proofs.lemmas.Result.{err_from_is_err_and}
use Rattle.ron_spec_words.specs.Reader.{got}
use Rattle.ron_spec_words.specs.Directly.{stands}
use Rattle.ron_spec_grammar.specs.Data as plain
use Rattle.ron_spec_grammar.proofs.BareTurns.{option_implied, option_refused}
use Rattle.ron_spec_grammar.specs.Reading.{read}
use Rattle.ron_spec_grammar.specs.Room.{enough}
use Rattle.ron_base.specs.Class.{class_of}
use Rattle.ron_de_steps.specs.Reads.{IsFaultOf}
use Rattle.ron_data.specs.Datum.{data_view}
use Rattle.ron_de_parts.proofs.RoomLemmas.{group_of_value}
use Rattle.ron_de_parts.proofs.SliceLemmas.{sliced-some, stays, data_there}
use Rattle.ron_de.proofs.ReachLemmas.{over_some}
use Rattle.ron_de_parts.proofs.KeptLemmas.{source_there}
use Rattle.ron_de_parts.proofs.ContentLemmas.{made_of}
use Rattle.ron_de.proofs.HeldLemmas.{room_of_group, room_of_held}
use Rattle.ron_de_parts.specs.Slices.{StringsAreSliced}
use Rattle.ron_de.proofs.BareLemmas.{none_value, some_here, option_value}
use Rattle.ron_de_parts.specs.Room.{IsRoom}
use Rattle.ron_de.proofs.TurnLemmas.{made_turns, refused_turns, settled_spent, looked_spent, look_spent, word_settled, some_settled}
use Rattle.ron_de.specs.Turns.{SpendsLooked}
use Rattle.std.proofs.lemmas.Bool.{and_parts}
use Rattle.ron_lex.specs.Place.{Place}
use Rattle.ron_de.proofs.+read.Goals as goal

pub options::read_option-returns-then-take_none-clause-value : goal.options::read_option-returns-then-take_none-clause-value
options::read_option-returns-then-take_none-clause-value t c = λ i is room r. none_value c.args.context.now.extensions c.args.context.now.schema room i
    c.args.cursor.now.gap c.args.cursor.now.rest c.args.content is.0 _ (sym c.take_none.ensures.stands ∙ c.if-take_none.true) c.if-take_none.ensures.taken

pub options::read_option-read_some-requires : goal.options::read_option-read_some-requires
options::read_option-read_some-requires t c =
    let same = c.if-take_none.ensures.taken in
    let short : enough c.args.context.now.schema false c.args.content (length c.take_none.new.cursor.rest) ≡ enough c.args.context.now.schema false
    c.args.content (length c.args.cursor.now.rest) = ap (λ p. enough c.args.context.now.schema false c.args.content (length p.rest)) same in
    (omega (arith, short), (c.requires, (ap (λ p. stands (codes "None") p.rest) same ∙ sym c.take_none.ensures.stands ∙ c.if-take_none.false)))

pub options::read_option-returns-in_err-value-clause-value : goal.options::read_option-returns-in_err-value-clause-value
options::read_option-returns-in_err-value-clause-value t c =
    let p = err_from_is_err_and c.from_residual.result c.from_residual.ensures.1 in
    rw (p.1, p.2) (λ i is. subst (λ place. (room : ℕ) → IsRoom c.args.context.now.limit (enough c.args.context.now.schema false i (length place.rest)) room
    → IsFaultOf (class_of c.in_err-value.field-0.0) (read c.args.context.now.extensions c.args.context.now.schema room false i place.gap place.rest))
    c.if-take_none.ensures.taken (c.in_err-value.ensures.value i is))

pub options::read_option-returns : goal.options::read_option-returns
options::read_option-returns t c = record {
  value = λ i is room r.
      subst (λ place. (room : ℕ) → IsRoom c.args.context.now.limit (enough c.args.context.now.schema false i (length place.rest)) room
      → read c.args.context.now.extensions c.args.context.now.schema room false i place.gap place.rest
      ≡ got (plain.some_of (data_view c.in_ok-value.value)) c.read_some.new.cursor.rest) c.if-take_none.ensures.taken (c.in_ok-value.ensures.value i is) room r
      ∙ option_value c.in_ok-new.field-0 c.in_ok-value.value _ c.in_ok-new.ensures.ok;
  slice = search rules;
  advance = record {
    text = search rules;
    no_longer = search rules;
    holds = λ source. sliced-some _ _ _ _ (stays _ _ (ap (λ (p : Place). p.rest) c.if-take_none.ensures.taken)) c.take_none.ensures.text c.in_ok-new.field-0
        (subst (StringsAreSliced _ _) (sym c.in_ok-new.ensures.ok) (c.in_ok-value.ensures.advance.holds (source_there refl c.take_none.ensures.text source)));
    fault = search rules;
  };
  turns = made_turns _ _ c.read_some.new.cursor _ (Ok _) (subst (λ (p : Place). SpendsLooked c.args.context.now.schema c.args.content p (Ok c.in_ok-value.value)
      c.read_some.new.cursor) c.if-take_none.ensures.taken c.in_ok-value.ensures.turns);
}

pub options::read_some-read_content-requires : goal.options::read_some-read_content-requires
options::read_some-read_content-requires t c = (
  omega (
    arith,
    group_of_value c.args.context.now.schema c.args.content (suc (length c.take_some.new.self.rest)) (length c.args.cursor.now.rest)
        (omega (arith, c.take_some.ensures.shorter c.if-take_some.true)),
  ),
  c.requires.in_range,
)

pub options::read_some-returns-then-take_some-clause-value : goal.options::read_some-returns-then-take_some-clause-value
options::read_some-returns-then-take_some-clause-value t c = λ i is room r. made_of plain.some_of c.read_content.result _ _ c.read_content.new.cursor.rest
    (some_here c.args.context.now.extensions c.args.context.now.schema room i c.args.cursor.now.gap c.args.cursor.now.rest c.args.content is.0
    c.unwraps_variants.result (40 ∷ c.take_some.new.self.rest) c.requires.not_none (sym c.take_some.ensures.opens ∙ c.if-take_some.true)
    c.unwraps_variants.ensures (sym c.if-take_some.ensures.taken))
    (c.read_content.ensures.value room (room_of_group c.args.context.now i _ _ room (omega (arith, c.take_some.ensures.shorter c.if-take_some.true)) r))

pub options::read_some-returns-then-implies_some-clause-value : goal.options::read_some-returns-then-implies_some-clause-value
options::read_some-returns-then-implies_some-clause-value t c = λ i is room r. made_of plain.some_of c.read_below.result _ _ c.read_below.new.cursor.rest
    (option_implied c.args.context.now.extensions c.args.context.now.schema room i c.args.cursor.now.gap c.args.cursor.now.rest c.args.content is.0
    c.requires.not_none (sym c.take_some.ensures.opens ∙ c.if-take_some.false) (sym c.implies_some.ensures ∙ c.if-implies_some.true))
    ((rw (c.if-take_some.ensures.taken.rest, c.if-take_some.ensures.taken.gap) at c.read_below.ensures.value) room
    (room_of_held c.args.context.now i c.args.content _ room is.1 r))

pub options::read_some-returns-then-take_some-clause-advance : goal.options::read_some-returns-then-take_some-clause-advance
options::read_some-returns-then-take_some-clause-advance t c =
    let a = c.read_content.ensures.advance in
    let some =
    over_some c.args.cursor.now c.take_some.new.self (and_parts _ _ (sym c.take_some.ensures.opens ∙ c.if-take_some.true)).0 c.if-take_some.ensures.taken in
    record {
      text = search rules;
      no_longer = search rules;
      holds = data_there _ _ _ _ some refl c.take_some.ensures.text c.read_content.result a.holds;
      fault = a.fault;
    }

pub options::read_some-returns-then-implies_some-clause-advance : goal.options::read_some-returns-then-implies_some-clause-advance
options::read_some-returns-then-implies_some-clause-advance t c =
    let a = c.read_below.ensures.advance in
    record {
      text = search rules;
      no_longer = search rules;
      holds = data_there _ _ _ _ (stays _ _ c.if-take_some.ensures.taken.rest) refl c.take_some.ensures.text c.read_below.result a.holds;
      fault = a.fault;
    }

pub options::read_some-returns-clause-value : goal.options::read_some-returns-clause-value
options::read_some-returns-clause-value t c =
    λ i is room r. option_refused c.args.context.now.extensions c.args.context.now.schema room i c.args.cursor.now.gap c.args.cursor.now.rest c.args.content
    is.0 c.requires.not_none (sym c.take_some.ensures.opens ∙ c.if-take_some.false) (sym c.implies_some.ensures ∙ c.if-implies_some.false)

-- ---- the count

pub options::read_option-returns-then-take_none-clause-turns : goal.options::read_option-returns-then-take_none-clause-turns
options::read_option-returns-then-take_none-clause-turns t c = settled_spent _ c.args.cursor.now _ c.take_none.new.cursor _
    (word_settled _ c.args.cursor.now _ c.take_none.new.cursor c.take_none.ensures.turns c.take_none.ensures.near)

pub options::read_option-returns-in_err-value-clause-turns : goal.options::read_option-returns-in_err-value-clause-turns
options::read_option-returns-in_err-value-clause-turns t c =
    let p = err_from_is_err_and c.from_residual.result c.from_residual.ensures.1 in
    rw (p.1, p.2) (refused_turns _ _ c.read_some.new.cursor _ _ (subst (λ (p : Place). SpendsLooked c.args.context.now.schema c.args.content p
    (Err c.in_err-value.field-0.0) c.read_some.new.cursor) c.if-take_none.ensures.taken c.in_err-value.ensures.turns))

pub options::read_some-returns-then-take_some-clause-turns : goal.options::read_some-returns-then-take_some-clause-turns
options::read_some-returns-then-take_some-clause-turns t c =
    settled_spent _ c.args.cursor.now c.read_content.result c.read_content.new.cursor _ (some_settled _ c.args.cursor.now c.take_some.new.self
    c.read_content.result c.read_content.new.cursor c.take_some.ensures.text (and_parts _ _ (sym c.take_some.ensures.opens ∙ c.if-take_some.true)).0
    c.if-take_some.ensures.taken c.if-take_some.ensures.turns c.read_content.ensures.turns)

pub options::read_some-returns-then-implies_some-clause-turns : goal.options::read_some-returns-then-implies_some-clause-turns
options::read_some-returns-then-implies_some-clause-turns t c = looked_spent _ c.args.cursor.now c.read_below.result c.read_below.new.cursor false 1 _ _
    c.take_some.new.self (omega arith) c.if-take_some.ensures.taken c.if-take_some.ensures.turns c.read_below.ensures.turns

pub options::read_some-returns-clause-turns : goal.options::read_some-returns-clause-turns
options::read_some-returns-clause-turns t c =
    look_spent _ _ c.args.cursor.now c.take_some.new.self _ 1 (omega arith) c.if-take_some.ensures.taken c.if-take_some.ensures.turns
