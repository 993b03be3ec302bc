use Rattle.std.proofs.Common.{◌≡◌, ◌≢◌, Some, false, ◌||◌, [], ◌++◌, chars, refl, sym, ap, subst, ◌∙◌, inl, inr}
use Rattle.std.proofs.lemmas.Result.{err_from_is_err_and}
use Rattle.ron_spec_words.specs.Characters.{Text}
use Rattle.ron_spec_words.specs.Gap.{skip}
use Rattle.ron_spec_words.specs.Quoted.{String}
use Rattle.ron_spec_words.specs.Reader.{got}
use Rattle.ron_lex.specs.Quoted.{HoldsEscape}
use Rattle.ron_de_parts.specs.Slices.{IsSliced, StringsAreSliced}
use Rattle.ron_de_parts.specs.Terms.{source_view}
use Rattle.ron_spec_grammar.proofs.AttributeTurns.{start_plain}
use Rattle.ron_spec_words.proofs.Gaps.{skip_to_end, gap_to_end}
use Rattle.ron_data_schema.specs.Table.{table_of}
use Rattle.ron_data.specs.Datum.{data_view}
use Rattle.ron_base.specs.declared.error.Error.TheVariants.{TrailingCharacters}
use Rattle.ron.specs.Reading.{HasRest}
use Rattle.ron.proofs.ReadLemmas.{no_cycle_in}
use Rattle.ron.proofs.WholeLemmas.{tells}
use Rattle.ron.proofs.FrontLemmas.{nowhere, no_value, start_fault, start_memory, start_refused, attribute_or, attribute_or_else, fault_of_text, none_whole}
use Rattle.ron.proofs.FrontLemmas.{read_whole, rest_whole, refused_whole, refused_value, same_rest, of_document, not_of_end}
use Rattle.ron.proofs.options.Options.read_document.Goals as goal
use Rattle.ron.proofs.options.Options.read_document.Goals.{Joined-deserializer-3}

-- ---- where no value begins

pub returns-in_err-deserializer-clause-errors : goal.returns-in_err-deserializer-clause-errors
returns-in_err-deserializer-clause-errors c =
    let p = err_from_is_err_and c.from_residual.result c.from_residual.ensures.1 in
    let start = c.in_err-deserializer.ensures.errors in
    rw (p.1, p.2) (tells c.args.self.now.default_extensions c.args.self.now.recursion_limit (table_of c.args.schema.now)
    (no_cycle_in (table_of c.args.schema.now) c.args.schema.now.well_formed) (chars c.args.s.now) (source_view c.args.source) _
    (λ room r. start_fault _ c.in_err-deserializer.ensures.answer
    (λ k. nowhere c.args.self.now.default_extensions c.args.self.now.recursion_limit (table_of c.args.schema.now) (chars c.args.s.now) k room))
    (λ y gap body room d next k r g behind. inr (start_memory _ c.in_err-deserializer.ensures.answer
    (λ f. no_value c.args.self.now.default_extensions c.args.self.now.recursion_limit (table_of c.args.schema.now) (chars c.args.s.now) f y gap body k)))
    (of_document _ start.fault)
    (λ e. absurd (not_of_end _ e start.fault))
    (λ leaf. attribute_or (chars c.args.s.now) (λ none room r. nowhere c.args.self.now.default_extensions c.args.self.now.recursion_limit
    (table_of c.args.schema.now) (chars c.args.s.now) (start_refused _ (start.memory none).0 c.in_err-deserializer.ensures.answer) room))
    (λ source is. attribute_or_else (chars c.args.s.now) (λ none. inr (λ room r. nowhere c.args.self.now.default_extensions c.args.self.now.recursion_limit
    (table_of c.args.schema.now) (chars c.args.s.now) (start_refused _ (start.memory none).0 c.in_err-deserializer.ensures.answer) room)))
    start.place)

-- ---- a refused value

pub returns-in-Err-clause-errors : goal.returns-in-Err-clause-errors
returns-in-Err-clause-errors c =
    let state = c.in_ok-deserializer.ensures.state in
    let a = rw (state.limit, state.text) at (c.in-Err.ensures.answer state.fresh) in
    let told = c.in-Err.ensures.errors state.fresh in
    let unread = rw (state.limit, state.text) at told.memory in
    let unread_string = rw (state.limit, state.text) at told.string in
    tells c.args.self.now.default_extensions c.args.self.now.recursion_limit (table_of c.args.schema.now)
    (no_cycle_in (table_of c.args.schema.now) c.args.schema.now.well_formed) (chars c.args.s.now) (source_view c.args.source) c.span_error.result
    (rw c.span_error.ensures.code (refused_whole c.args.self.now.default_extensions c.args.self.now.recursion_limit (table_of c.args.schema.now)
    (chars c.args.s.now) c.in_ok-deserializer.deserializer.extensions c.in_ok-deserializer.deserializer.gap c.in_ok-deserializer.deserializer.rest
    c.read_kept.new.self.rest c.in_ok-deserializer.ensures.answer c.in-Err.code a))
    (λ y gap body room d next k r g more. rw c.span_error.ensures.code (inr (refused_value c.args.self.now.default_extensions c.args.self.now.recursion_limit
    (table_of c.args.schema.now) (chars c.args.s.now) c.in_ok-deserializer.deserializer.extensions c.in_ok-deserializer.deserializer.gap
    c.in_ok-deserializer.deserializer.rest c.read_kept.new.self.rest c.in_ok-deserializer.ensures.answer c.in-Err.code a y gap body room d next k r g)))
    (rw c.span_error.ensures.code (of_document _ told.fault))
    (λ e. absurd (not_of_end _ (sym c.span_error.ensures.code ∙ e) told.fault))
    (λ leaf. inr (none_whole c.args.self.now.default_extensions c.args.self.now.recursion_limit (table_of c.args.schema.now) (chars c.args.s.now)
    c.in_ok-deserializer.deserializer.extensions c.in_ok-deserializer.deserializer.gap c.in_ok-deserializer.deserializer.rest c.read_kept.new.self.rest
    c.in_ok-deserializer.ensures.answer (unread leaf)))
    (λ source is. attribute_or_else (chars c.args.s.now) (λ none. elim (unread_string source is) [
      | inl escaped ↦ inl (subst (HoldsEscape String) (start_plain _ _ _ _ none c.in_ok-deserializer.ensures.answer) escaped)
      | inr nothing ↦ inr (none_whole c.args.self.now.default_extensions c.args.self.now.recursion_limit (table_of c.args.schema.now) (chars c.args.s.now)
          c.in_ok-deserializer.deserializer.extensions c.in_ok-deserializer.deserializer.gap c.in_ok-deserializer.deserializer.rest c.read_kept.new.self.rest
          c.in_ok-deserializer.ensures.answer nothing)
    ]))
    (record {
      ordered = c.span_error.ensures.ordered;
      start = (c.read_kept.new.self.token_start, rw (c.in-Err.ensures.state.text, state.text) at c.span_error.ensures.start);
      end = (c.read_kept.new.self.rest, rw (c.in-Err.ensures.state.text, state.text) at c.span_error.ensures.end);
    })

-- ---- a value with nothing behind it

pub returns-in-Ok-end-clause-errors : goal.returns-in-Ok-end-clause-errors
returns-in-Ok-end-clause-errors c =
    let state = c.in_ok-deserializer.ensures.state in
    let a = rw (state.limit, state.text) at (c.in-Ok.ensures.answer state.fresh) in
    let fresh : c.read_kept.new.self.failed ≡ false = c.in-Ok.ensures.state.failed ∙ ap (λ b. b || false) state.fresh in
    let ends = skip_to_end _ ((c.in-Ok-end.ensures.ok fresh).0 refl) in
    record {
      answer = read_whole c.args.self.now.default_extensions c.args.self.now.recursion_limit (table_of c.args.schema.now) (chars c.args.s.now)
          c.in_ok-deserializer.deserializer.extensions c.in_ok-deserializer.deserializer.gap c.in_ok-deserializer.deserializer.rest c.read_kept.new.self.rest
          c.in_ok-deserializer.ensures.answer c.in-Ok.data a ends;
      rest = λ y gap body room d next k r g more.
          let same = same_rest c.args.self.now.default_extensions c.args.self.now.recursion_limit (table_of c.args.schema.now) (chars c.args.s.now)
          c.in_ok-deserializer.deserializer.extensions c.in_ok-deserializer.deserializer.gap c.in_ok-deserializer.deserializer.rest c.read_kept.new.self.rest
          c.in_ok-deserializer.ensures.answer c.in-Ok.data a y gap body room d next k r g in
          more.0 (sym (ap skip same) ∙ ends);
      refused = tt;
    }

pub returns-in-Ok-end-clause-slices : goal.returns-in-Ok-end-clause-slices
returns-in-Ok-end-clause-slices c source =
    let state = c.in_ok-deserializer.ensures.state in
    let taken = rw state.limit at c.in-Ok.ensures.ok.spelled in
    let d = c.in_ok-deserializer.deserializer in
    let fresh : c.read_kept.new.self.failed ≡ false = c.in-Ok.ensures.state.failed ∙ ap (λ b. b || false) state.fresh in
    let slices = c.in-Ok.ensures.slices (source ∙ ap Some (sym state.text)) in
    record {
      in_force = d.extensions;
      gap = d.gap;
      stretch = taken.0;
      rest = c.read_kept.new.self.rest;
      begins = c.in_ok-deserializer.ensures.answer ∙ ap (got (d.extensions, d.gap)) taken.1;
      spelled = rw (state.text, taken.1) at taken.2;
      ends = (c.in-Ok-end.ensures.ok fresh).0 refl;
      own = subst (λ (u : Text). IsSliced u c.read_kept.new.self.rest c.in-Ok.data) taken.1 slices.own;
      strings = subst (λ (u : Text). StringsAreSliced (taken.0 ++ c.read_kept.new.self.rest) u c.in-Ok.data) state.text
          (subst (λ (u : Text). StringsAreSliced u d.text c.in-Ok.data) taken.1 slices.strings);
    }

-- ---- a value with another character behind it

fresh : (c : Joined-deserializer-3) → c.read_kept.new.self.failed ≡ false
fresh c = c.in-Ok.ensures.state.failed ∙ ap (λ b. b || false) c.in_ok-deserializer.ensures.state.fresh

more : (c : Joined-deserializer-3) → skip c.read_kept.new.self.rest ≢ []
more c ends = let no = (c.in-Err-end.ensures.ok (fresh c)).1 (gap_to_end _ ends) in cc

trailing : (c : Joined-deserializer-3) → HasRest c.read_kept.new.self.rest → c.span_error-in-Err-end.result.code ≡ TrailingCharacters
trailing c h = let rest_error = (c.in-Err-end.ensures.trailing (fresh c)).1 h in cc (c.span_error-in-Err-end.ensures.code)

has_rest : (c : Joined-deserializer-3) → c.span_error-in-Err-end.result.code ≡ TrailingCharacters → HasRest c.read_kept.new.self.rest
has_rest c e = (c.in-Err-end.ensures.trailing (fresh c)).0 (let same = sym c.span_error-in-Err-end.ensures.code ∙ e in cc)

text : (c : Joined-deserializer-3) → c.end.new.self.text ≡ chars c.args.s.now
text c = c.in-Err-end.ensures.state.text ∙ c.in-Ok.ensures.state.text ∙ c.in_ok-deserializer.ensures.state.text

pub returns-clause-errors : goal.returns-clause-errors
returns-clause-errors c =
    let state = c.in_ok-deserializer.ensures.state in
    let a = rw (state.limit, state.text) at (c.in-Ok.ensures.answer state.fresh) in
    let taken = rw state.limit at c.in-Ok.ensures.ok.spelled in
    let place = c.in-Err-end.ensures.place (fresh c) in
    let told = c.in-Err-end.ensures.fault (fresh c) in
    tells c.args.self.now.default_extensions c.args.self.now.recursion_limit (table_of c.args.schema.now)
    (no_cycle_in (table_of c.args.schema.now) c.args.schema.now.well_formed) (chars c.args.s.now) (source_view c.args.source) c.span_error-in-Err-end.result
    (rw c.span_error-in-Err-end.ensures.code
    (λ room r. fault_of_text c.in-Err-end.code told.0 (rest_whole c.args.self.now.default_extensions c.args.self.now.recursion_limit
    (table_of c.args.schema.now) (chars c.args.s.now) c.in_ok-deserializer.deserializer.extensions c.in_ok-deserializer.deserializer.gap
    c.in_ok-deserializer.deserializer.rest c.read_kept.new.self.rest c.in_ok-deserializer.ensures.answer c.in-Ok.data a (more c) room r)))
    (λ y gap body room d next k r g behind.
    let same = same_rest c.args.self.now.default_extensions c.args.self.now.recursion_limit (table_of c.args.schema.now) (chars c.args.s.now)
    c.in_ok-deserializer.deserializer.extensions c.in_ok-deserializer.deserializer.gap c.in_ok-deserializer.deserializer.rest c.read_kept.new.self.rest
    c.in_ok-deserializer.ensures.answer c.in-Ok.data a y gap body room d next k r g in
    inl (trailing c (subst HasRest (sym same) behind)))
    (rw c.span_error-in-Err-end.ensures.code told.1)
    (λ e.
    let behind = has_rest c e in
    let at_rest = place.rest behind.1 in
    let at_start = place.token_start in
    record {
      value = data_view c.in-Ok.data;
      in_force = c.in_ok-deserializer.deserializer.extensions;
      gap = c.in_ok-deserializer.deserializer.gap;
      stretch = taken.0;
      next = c.read_kept.new.self.rest;
      begins = c.in_ok-deserializer.ensures.answer ∙ ap (got (c.in_ok-deserializer.deserializer.extensions, c.in_ok-deserializer.deserializer.gap)) taken.1;
      spelled = rw (state.text, taken.1) at taken.2;
      more = behind;
      start = rw (text c, at_start) at c.span_error-in-Err-end.ensures.start;
      end = rw (text c, at_rest) at c.span_error-in-Err-end.ensures.end;
    })
    (λ leaf. inr (rest_whole c.args.self.now.default_extensions c.args.self.now.recursion_limit (table_of c.args.schema.now) (chars c.args.s.now)
    c.in_ok-deserializer.deserializer.extensions c.in_ok-deserializer.deserializer.gap c.in_ok-deserializer.deserializer.rest c.read_kept.new.self.rest
    c.in_ok-deserializer.ensures.answer c.in-Ok.data a (more c)))
    (λ source is. inr (rest_whole c.args.self.now.default_extensions c.args.self.now.recursion_limit (table_of c.args.schema.now) (chars c.args.s.now)
    c.in_ok-deserializer.deserializer.extensions c.in_ok-deserializer.deserializer.gap c.in_ok-deserializer.deserializer.rest c.read_kept.new.self.rest
    c.in_ok-deserializer.ensures.answer c.in-Ok.data a (more c)))
    (record {
      ordered = c.span_error-in-Err-end.ensures.ordered;
      start = (c.end.new.self.token_start, rw (text c) at c.span_error-in-Err-end.ensures.start);
      end = (c.end.new.self.rest, rw (text c) at c.span_error-in-Err-end.ensures.end);
    })
