use Rattle.std.proofs.Common.{inl, inr, chars, subst, ◌∙◌}
use Rattle.std.proofs.lemmas.Result.{err_from_is_err_and}
use Rattle.ron_base_device.specs.Utf8.{SpansValidFront}
use Rattle.ron.specs.Bytes.{ReadsText}
use Rattle.ron.proofs.OwnedLemmas.{whole_span_of}
use Rattle.ron.proofs.TypeLemmas.{by_type, refused_by}
use Rattle.ron.proofs.options.Options.read_type.Goals as goal

pub returns-in_err-data : goal.returns-in_err-data
returns-in_err-data g c =
    let read = c.from_str_seed.ensures in
    let p = err_from_is_err_and c.from_residual.result c.from_residual.ensures.1 in
    let reads = by_type (λ t r. ReadsText c.args.self.now.default_extensions c.args.self.now.recursion_limit t (chars c.args.s.now) r) _ _ _ _ c.in-Ok.ensures
    c.in_err-data.was (record {
      ok = read.ok;
      only = read.only;
      of_schema = read.of_schema;
      err = read.err;
      deep = read.deep;
      slices = read.slices;
      reads_back = read.reads_back;
      errors = read.errors;
    }) in
    rw (p.1, p.2) (record { reads = inl reads; place = c.in_err-data.ensures.errors.refused.place; own = inl reads })

pub returns-in-Ok-from_data : goal.returns-in-Ok-from_data
returns-in-Ok-from_data g c =
    let read = c.from_str_seed.ensures in
    let made = c.in-Ok-from_data.ensures in
    record {
      reads = (
        c.in_ok-data.data,
        by_type (λ t r. ReadsText c.args.self.now.default_extensions c.args.self.now.recursion_limit t (chars c.args.s.now) r) _ _ _ _ c.in-Ok.ensures
            c.in_ok-data.was (record {
              ok = read.ok;
              only = read.only;
              of_schema = read.of_schema;
              err = read.err;
              deep = read.deep;
              slices = read.slices;
              reads_back = read.reads_back;
              errors = read.errors;
            }),
        record { accepted = made.accepted; value = made.value },
      );
      place = tt;
      own = tt;
    }

pub returns : goal.returns
returns g c =
    let told = refused_by g.T.Deserialize.refuses g.T.Schematic.accepts _ _ _ c.refused-in-Err-from_data.ensures.code c.in-Err-from_data.ensures.refused
    c.in-Err-from_data.ensures.accepted in
    let read = c.from_str_seed.ensures in
    let answered = by_type (λ t r. ReadsText c.args.self.now.default_extensions c.args.self.now.recursion_limit t (chars c.args.s.now) r) _ _ _ _
    c.in-Ok.ensures c.in_ok-data.was (record {
      ok = read.ok;
      only = read.only;
      of_schema = read.of_schema;
      err = read.err;
      deep = read.deep;
      slices = read.slices;
      reads_back = read.reads_back;
      errors = read.errors;
    }) in
    record {
      reads = inr (inl (c.in_ok-data.data, answered, told.0, told.1));
      place = whole_span_of c.args.s.now c.as_bytes-in-Err-from_data.result.now c.refused-in-Err-from_data.result c.as_bytes-in-Err-from_data.ensures.value
          c.as_bytes-in-Err-from_data.ensures.utf8 c.refused-in-Err-from_data.ensures.span;
      own = inr (
        inl (c.in_ok-data.data, answered, told.0, told.1),
        subst (λ bytes. SpansValidFront bytes c.refused-in-Err-from_data.result.span) c.as_bytes-in-Err-from_data.ensures.value
            c.refused-in-Err-from_data.ensures.span,
      );
    }

pub returns-in-Err-clause-place : goal.returns-in-Err-clause-place
returns-in-Err-clause-place g c =
    whole_span_of c.args.s.now c.as_bytes.result.now c.refused.result c.as_bytes.ensures.value c.as_bytes.ensures.utf8 c.refused.ensures.span

pub returns-in-Err-clause-own : goal.returns-in-Err-clause-own
returns-in-Err-clause-own g c = inr (
  inr (c.refused.ensures.code ∙ c.in-Err.ensures),
  subst (λ bytes. SpansValidFront bytes c.refused.result.span) c.as_bytes.ensures.value c.refused.ensures.span,
)
