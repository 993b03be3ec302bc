use Rattle.std.proofs.Common.{rules, arith, sym, ap, ◌∙◌, refl}
use Rattle.std.proofs.lemmas.Result.{err_from_is_err_and}
use Rattle.ron_spec_words.specs.Reader.{got}
use Rattle.ron_de_parts.specs.Bytes.{begins_byte_string}
use Rattle.ron_de_parts.proofs.ByteLemmas.{no_byte_string, byte_string_begins}
use Rattle.ron_de_steps.proofs.ErrorLemmas.{fault_of}
use Rattle.ron_de_parts.proofs.SliceLemmas.{sliced-byte_string}
use Rattle.ron_de_parts.proofs.KeptLemmas.{ends_here, bytes_here, bytes_read, kept_bytes}
use Rattle.ron_de_steps.proofs.NearLemmas.{byte_string_nears}
use Rattle.ron_de_parts.proofs.TurnLemmas.{leaf_read, leaf_refused}
use Rattle.ron_de_parts.proofs.bytes.read_byte_string.Goals as goal

pub returns-then-not-begins_byte_string-clause-value : goal.returns-then-not-begins_byte_string-clause-value
returns-then-not-begins_byte_string-clause-value c =
    no_byte_string c.args.cursor.now.rest (ap begins_byte_string (sym c.rest-start.ensures.rest) ∙ sym c.if-not-begins_byte_string.ensures)

pub returns-then-not-begins_byte_string-clause-turns : goal.returns-then-not-begins_byte_string-clause-turns
returns-then-not-begins_byte_string-clause-turns c = leaf_refused 1 (omega arith) c.args.cursor.now c.args.cursor.now _ (omega arith)

pub returns-in_err-bytes-clause-value : goal.returns-in_err-bytes-clause-value
returns-in_err-bytes-clause-value c =
    let p = err_from_is_err_and c.from_residual.result c.from_residual.ensures.1 in
    rw (p.1, p.2) (fault_of _ _ _ (λ fault f. rw f refl) c.in_err-bytes.ensures.value)

pub returns-in_err-bytes-clause-missing : goal.returns-in_err-bytes-clause-missing
returns-in_err-bytes-clause-missing c =
    byte_string_begins c.args.cursor.now.rest _ (ap begins_byte_string (sym c.rest-start.ensures.rest) ∙ sym c.if-not-begins_byte_string.ensures)

pub returns-in_err-bytes-clause-turns : goal.returns-in_err-bytes-clause-turns
returns-in_err-bytes-clause-turns c =
    let p = err_from_is_err_and c.from_residual.result c.from_residual.ensures.1 in
    rw (p.1, p.2) (leaf_refused 2 (omega arith) c.args.cursor.now c.read_byte_string.new.cursor _ c.in_err-bytes.ensures.turns.most)

-- ---- what was read isn't kept, for want of memory

pub returns-in_err-kept-clause-value : goal.returns-in_err-kept-clause-value
returns-in_err-kept-clause-value c =
    let p = err_from_is_err_and c.from_residual-in_err-kept.result c.from_residual-in_err-kept.ensures.1 in
    rw (p.1, p.2, c.in_err-kept.ensures.same) tt

pub returns-in_err-kept-clause-missing : goal.returns-in_err-kept-clause-missing
returns-in_err-kept-clause-missing c =
    byte_string_begins c.args.cursor.now.rest _ (ap begins_byte_string (sym c.rest-start.ensures.rest) ∙ sym c.if-not-begins_byte_string.ensures)

pub returns-in_err-kept-clause-turns : goal.returns-in_err-kept-clause-turns
returns-in_err-kept-clause-turns c =
    let p = err_from_is_err_and c.from_residual-in_err-kept.result c.from_residual-in_err-kept.ensures.1 in
    rw (p.1, p.2) (leaf_refused 2 (omega arith) c.args.cursor.now c.read_byte_string.new.cursor _ c.in_ok-bytes.ensures.turns.most)

-- ---- what is kept

pub returns-clause-value : goal.returns-clause-value
returns-clause-value c = bytes_read _ _ c.in_ok-bytes.bytes c.in_ok-kept.kept c.in_ok-kept.ensures.same c.in_ok-bytes.ensures.value

pub returns-clause-missing : goal.returns-clause-missing
returns-clause-missing c =
    byte_string_begins c.args.cursor.now.rest _ (ap begins_byte_string (sym c.rest-start.ensures.rest) ∙ sym c.if-not-begins_byte_string.ensures)

pub returns-clause-slice : goal.returns-clause-slice
returns-clause-slice c source =
    let place = c.rest-start.ensures in
    let read = c.in_ok-bytes.ensures in
    let slice =
    c.in_ok-kept.ensures.slice (ends_here _ _ _ _ place.rest place.end source) (bytes_here _ _ _ c.in_ok-bytes.bytes place.rest read.value read.slice) in
    rw c.requires (kept_bytes c.args.cursor.now.rest c.read_byte_string.new.cursor.rest c.in_ok-bytes.bytes c.in_ok-kept.kept c.in_ok-kept.ensures.same slice
    (read.slice, read.between))

pub returns-clause-advance : goal.returns-clause-advance
returns-clause-advance c = record {
  text = search rules;
  no_longer = search rules;
  holds = λ source.
      let place = c.rest-start.ensures in
      let read = c.in_ok-bytes.ensures in
      let slice =
      c.in_ok-kept.ensures.slice (ends_here _ _ _ _ place.rest place.end source) (bytes_here _ _ _ c.in_ok-bytes.bytes place.rest read.value read.slice) in
      let h = kept_bytes c.args.cursor.now.rest c.read_byte_string.new.cursor.rest c.in_ok-bytes.bytes c.in_ok-kept.kept c.in_ok-kept.ensures.same slice
      (read.slice, read.between) in
      sliced-byte_string _ c.args.cursor.now.rest c.read_byte_string.new.cursor.rest c.in_ok-kept.kept c.requires read.end
      (read.value ∙ ap (λ b. got b c.read_byte_string.new.cursor.rest) (sym c.in_ok-kept.ensures.same)) h.0 h.1;
  fault = search rules;
}

pub returns-clause-turns : goal.returns-clause-turns
returns-clause-turns c = leaf_read 2 (omega arith) c.args.cursor.now c.read_byte_string.new.cursor _ c.in_ok-bytes.ensures.turns.moved
    (byte_string_nears _ c.args.cursor.now c.read_byte_string.new.cursor c.in_ok-bytes.ensures.value)
