use Rattle.std.proofs.Common.{◌≡◌, ◌++◌, true, chars, Ok, Err, rules, sym, ap, subst, ◌∙◌}
use Rattle.std.proofs.lemmas.Result.{err_from_is_err_and}
use Rattle.ron_spec_words.specs.Runs.{begins_with}
use Rattle.ron_spec_words.proofs.Direct.{begins-append}
use Rattle.ron_de_steps.specs.Conditions.{Conditions}
use Rattle.ron_de_raw.specs.Raw.{raw_text_of}
use Rattle.ron_de_raw.specs.Reading.{ReadsRaw}
use Rattle.ron_de_parts.proofs.AgainLemmas.{raw_made}
use Rattle.ron_de_parts.proofs.RawLemmas.{raw_fault, raw_read}
use Rattle.ron_de_parts.proofs.SliceLemmas.{sliced-raw}
use Rattle.ron_de_parts.proofs.raw.read_raw.Goals as goal

pub returns-in_err-raw-clause-value : goal.returns-in_err-raw-clause-value
returns-in_err-raw-clause-value c =
    let p = err_from_is_err_and c.from_residual.result c.from_residual.ensures.1 in
    let h = subst (λ (x : Conditions). ReadsRaw x c.args.is_at_start c.args.cursor.now (Err c.in_err-raw.field-0.0) c.read_raw.new.cursor.rest)
    c.reading.ensures c.in_err-raw.ensures.value in
    rw (p.1, p.2) (λ i is room r. raw_fault c.args.is_at_start c.args.context.now i is.0 c.args.cursor.now room r _ c.read_raw.new.cursor.rest h)

-- ---- what was read isn't kept, for want of memory

pub returns-in_err-kept-clause-value : goal.returns-in_err-kept-clause-value
returns-in_err-kept-clause-value c =
    let p = err_from_is_err_and c.from_residual-in_err-kept.result c.from_residual-in_err-kept.ensures.1 in
    rw (p.1, p.2, c.in_err-kept.ensures.same) (λ i is room r. tt)

pub returns-in_err-kept-clause-turns : goal.returns-in_err-kept-clause-turns
returns-in_err-kept-clause-turns c =
    let p = err_from_is_err_and c.from_residual-in_err-kept.result c.from_residual-in_err-kept.ensures.1 in
    rw (p.1, p.2) (raw_made c.args.cursor.now c.read_raw.new.cursor (c.in_ok-raw.raw, c.in_ok-raw.start) c.in_ok-raw.ensures.turns _)

-- ---- what is kept

pub returns-clause-value : goal.returns-clause-value
returns-clause-value c =
    let h = subst (λ (x : Conditions). ReadsRaw x c.args.is_at_start c.args.cursor.now (Ok (c.in_ok-raw.raw, c.in_ok-raw.start)) c.read_raw.new.cursor.rest)
    c.reading.ensures c.in_ok-raw.ensures.value in
    λ i is room r. raw_read c.args.is_at_start c.args.context.now i is.0 c.args.cursor.now room r (c.in_ok-raw.raw, c.in_ok-raw.start) c.in_ok-kept.kept
    c.read_raw.new.cursor.rest c.in_ok-kept.ensures.same h

pub returns-clause-slice : goal.returns-clause-slice
returns-clause-slice c source =
    let raw = raw_text_of c.in_ok-raw.raw in
    let a = c.in_ok-raw.ensures.advance.holds in
    c.in_ok-kept.ensures.slice (c.args.cursor.now.text, source, a.end) (subst (λ s. begins_with raw s ≡ true) (sym a.split) (begins-append raw a.rest))

pub returns-clause-advance : goal.returns-clause-advance
returns-clause-advance c =
    let a = c.in_ok-raw.ensures.advance in
    let kept = c.in_ok-kept.kept in
    record {
      text = a.text;
      no_longer = a.no_longer;
      holds = λ source. sliced-raw _ _ kept (chars c.in_ok-raw.start.now) a.holds.rest a.holds.end
          (a.holds.split ∙ ap (λ s. s ++ a.holds.rest) (sym c.in_ok-kept.ensures.same)) (returns-clause-slice c source);
      fault = search rules;
    }

pub returns-clause-turns : goal.returns-clause-turns
returns-clause-turns c = raw_made c.args.cursor.now c.read_raw.new.cursor (c.in_ok-raw.raw, c.in_ok-raw.start) c.in_ok-raw.ensures.turns (Ok _)
